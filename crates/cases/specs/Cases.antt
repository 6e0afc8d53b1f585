-- "Cases marked ● are the set for proof, one table and a single claim over its rows." (document 01, Numbers to check against); "the case of
-- 2^63-1 and 1 ns now gives 2^63-1" (document 02, W-205)
use Rattle.std.specs.Prelude.{ℕ, ◌≡◌, List, [], ◌∷◌, ◌++◌, map, ℤ, pos, negsuc, take, replicate}
use Rattle.refusal.specs.Answer.{Answer, value, refused}
use Rattle.stamp.specs.declared.ptp.Stamp.{Stamp}
use Rattle.stamp.specs.declared.stamps.Stamps.TheVariants.{Ptp}
use Rattle.stamp.specs.Ptp.{nanoseconds_of, residence_of}
use Rattle.scratch_pad.specs.Sum.{largest}
use Rattle.message.specs.declared.fields.Message.{Message}
use Rattle.message.specs.declared.fields.Message.TheVariants.{Plain}
use Rattle.message.specs.Read.{read_of}
use Rattle.message.specs.Write.{plain_octets}
use Rattle.records.specs.Slots.{Slots, zeros}
use Rattle.rules.specs.Change.{pad_of}
use Rattle.rules.specs.declared.Handled.{Handled as Word}
use Rattle.rules.specs.declared.Handled.TheVariants.{Updated as updated, Created as created}
use Rattle.rules.specs.Rules.{Mode, one_step, two_step, Call, Reply, call_of}
use Rattle.rtm.specs.Stamped.{stamped_residence}
use Rattle.egress.specs.Join.{join_of}

-- what a row asks
pub data Question : Type 0 where
  -- the residence between two stamps
  between : Stamp → Stamp → Question
  -- what an octet string reads as
  reads : List ℕ → Question
  -- the pad of a message after a one-step node where it was so many nanoseconds
  pad_after : ℤ → ℕ → Question
  -- what a two-step node makes of a Sync there so many nanoseconds, with an output of so many zeros
  creates : List ℕ → ℕ → ℕ → Question
  -- a Sync with S clear over a one-step node and two two-step nodes, so many nanoseconds at each, and its Follow_Up, joined
  path : List ℕ → ℕ → ℕ → ℕ → Question

-- and what it wants: nanoseconds and units; fields; a pad; an answer and the output; the two pads and the total
pub data Wanted : Type 0 where
  time : Answer ℕ → Answer ℕ → Wanted
  fields : Answer Message → Wanted
  pad : Answer Word → ℤ → Wanted
  output : Answer Word → List ℕ → Wanted
  pads : ℤ → ℤ → Answer ℤ → Wanted

abbrev at : ℕ → ℕ → Stamp
at s n = record { seconds = s; nanoseconds = n }

-- a call on a message that was at the node so many nanoseconds, and the slots of a new table
abbrev call_at : Mode → List ℕ → ℕ → ℕ → Call
call_at m s n room = record { mode = m; message = s; residence = stamped_residence (Ptp (at 0 0) (at 0 n)); output = replicate room 0 }

abbrev new : Slots
new = replicate 16 zeros

abbrev reply_to : Slots → Call → Reply
reply_to t c = (call_of t 0 c).reply

-- The three nodes, each with a table of its own: the Sync is updated, the second node creates the Follow_Up, the third keeps the
-- residence until the Follow_Up comes.
abbrev along_path : List ℕ → ℕ → ℕ → ℕ → Wanted
along_path s a b c =
    let first = reply_to new (call_at one_step s a 0) in
    let second = reply_to new (call_at two_step first.message b 36) in
    let third = call_of new 0 (call_at two_step second.message c 36) in
    let follow = reply_to third.slots (call_at two_step (take 36 second.output) 0 0) in
    pads (pad_of third.reply.message) (pad_of follow.message) (join_of third.reply.message follow.message)

abbrev pub ask : Question → Wanted
ask (between entry exit) = time (nanoseconds_of entry exit) (residence_of entry exit)
ask (reads s) = fields (read_of s)
ask (pad_after z n) =
    let r = reply_to new (call_at one_step (plain_octets (record { message_type = 1; pad = z }) []) n 0) in
    pad r.answer (pad_of r.message)
ask (creates s n room) = let r = reply_to new (call_at two_step s n room) in output r.answer r.output
ask (path s a b c) = along_path s a b c

pub record Row : Type 0 where
  pub question : Question
  pub wanted : Wanted

abbrev row : Question → Wanted → Row
row q w = record { question = q; wanted = w }

-- `10 00 00 0F`, eight zeros, `00 01 00 00`, with its first two octets
abbrev type_one : ℕ → ℕ → List ℕ
type_one a b = a ∷ b ∷ 0x00 ∷ 0x0F ∷ 0 ∷ 0 ∷ 0 ∷ 0 ∷ 0 ∷ 0 ∷ 0 ∷ 0 ∷ 0x00 ∷ 0x01 ∷ 0x00 ∷ 0x00 ∷ []

-- port 00 01 02 03 04 05 06 07 00 01, sequence 01 02
abbrev identity : List ℕ
identity = 0x00 ∷ 0x01 ∷ 0x02 ∷ 0x03 ∷ 0x04 ∷ 0x05 ∷ 0x06 ∷ 0x07 ∷ 0x00 ∷ 0x01 ∷ 0x01 ∷ 0x02 ∷ []

-- a Sync of type 3, pad 0, S clear
abbrev a_sync : List ℕ
a_sync = (0x10 ∷ 0x00 ∷ 0x00 ∷ 0x0F ∷ 0 ∷ 0 ∷ 0 ∷ 0 ∷ 0 ∷ 0 ∷ 0 ∷ 0 ∷ 0x00 ∷ 0x03 ∷ 0x00 ∷ 0x14 ∷ 0x00 ∷ 0x01 ∷ 0x00 ∷ 0x14 ∷ 0 ∷ 0 ∷ 0 ∷ 0 ∷ []) ++ identity

abbrev pub rows : List Row
rows =
    row (between (at 10 999999000) (at 11 500)) (time (value 1500) (value 98304000))
    ∷ row (between (at 4294967295 999999999) (at 0 0)) (time (value 1) (value 65536))
    ∷ row (between (at 5 0) (at 8 999999999)) (time (value 3999999999) (value 262143999934464))
    ∷ row (between (at 5 0) (at 9 0)) (time (refused 10) (refused 10))
    ∷ row (between (at 5 1000000000) (at 6 0)) (time (refused 9) (refused 9))
    ∷ row (between (at 5 0) (at 6 1000000000)) (time (refused 9) (refused 9))
    ∷ row (pad_after (negsuc 98303) 1) (pad (value updated) (negsuc 32767))
    ∷ row (pad_after largest 0) (pad (value updated) largest)
    ∷ row (pad_after largest 1) (pad (value updated) largest)
    ∷ row (reads (type_one 0x10 0x00)) (fields (value (Plain (record { message_type = 1; pad = pos 0 }))))
    ∷ row (reads (type_one 0x10 0xFF)) (fields (value (Plain (record { message_type = 1; pad = pos 0 }))))
    ∷ row (reads (take 15 (type_one 0x10 0x00))) (fields (refused 1))
    ∷ row (reads (type_one 0x11 0x00)) (fields (refused 4))
    ∷ row (reads (type_one 0x20 0x00)) (fields (refused 3))
    ∷ row (creates a_sync 1500 36)
    (output (value created)
    ((0x10 ∷ 0x00 ∷ 0x00 ∷ 0x0F ∷ 0x00 ∷ 0x00 ∷ 0x00 ∷ 0x00 ∷ 0x05 ∷ 0xDC ∷ 0x00 ∷ 0x00 ∷ 0x00 ∷ 0x03 ∷ 0x00 ∷ 0x14 ∷ 0x00 ∷ 0x01 ∷ 0x00 ∷ 0x14 ∷ 0x80 ∷ 0x00 ∷ 0x00 ∷ 0x08 ∷ []) ++ identity))
    ∷ row (creates a_sync 1500 35) (output (refused 12) (replicate 35 0))
    ∷ row (path a_sync 1500 200 50) (pads (pos 98304000) (pos 16384000) (value (pos 114688000)))
    ∷ []

-- the one claim: each row's question is answered as the row wants
abbrev pub AllRight : Type 0
AllRight = map (λ (r : Row). ask r.question) rows ≡ map (λ (r : Row). r.wanted) rows
