-- What the functions for C hand over: answers as numbers, structs as the numbers of which their memory is made, and the table as words.
use Rattle.std.specs.Prelude.{ℕ, ◌+◌, ◌*◌, ◌/◌, ◌%◌, Bool, cond, not, List, eqb, ℤ, length, get_or, set}
use Rattle.std.specs.Int.{w64}
use Rattle.std.proofs.Common.{to_z, of_z}
use Rattle.refusal.specs.Answer.{Answer, value, refused, refusal_in}
use Rattle.refusal.specs.Written.{Write}
use Rattle.message.specs.declared.fields.Header.{Header}
use Rattle.message.specs.declared.fields.SubTlv.{SubTlv}
use Rattle.message.specs.declared.fields.Fields.{Fields}
use Rattle.message.specs.declared.fields.Message.{Message}
use Rattle.message.specs.declared.fields.Message.TheVariants.{Plain as plain, Ptp as ptp}
use Rattle.message.specs.Read.{read_of, packet_at, carried_of}
use Rattle.stamp.specs.declared.stamps.Stamps.{Stamps}
use Rattle.stamp.specs.declared.stamps.Stamps.TheVariants.{Ptp, Ntp}
use Rattle.records.specs.Slots.{Slots}
use Rattle.words.specs.Words.{slots_of, number_of}
use Rattle.words.specs.Answers.{Left}
use Rattle.node.specs.Answers.{DoneOn}
use Rattle.rules.specs.declared.Handled.{Handled as Word}
use Rattle.rules.specs.declared.Handled.TheVariants.{Updated as updated, Passed as passed, Created as created, Waiting as waiting, Added as added}
use Rattle.rules.specs.Rules.{Done}

-- Answers. "0 or a word's code, refusals as the papers number them"
abbrev pub word_code : Word → ℕ
word_code updated = 64
word_code passed = 65
word_code created = 66
word_code waiting = 67
word_code added = 68

abbrev pub code_of : Answer Word → ℕ
code_of (value w) = word_code w
code_of (refused n) = n

-- "what is told beside it goes to a lent place that a refusal leaves as it came"
pub record Told (A : Type 0) : Type 0 where
  pub answer : ℕ
  pub place : A

abbrev pub told : {A : Type 0} → ℕ → A → Told A
told r x = record { answer = r; place = x }

abbrev pub tell : {A : Type 0} → A → Answer A → Told A
tell old (value x) = told 0 x
tell old (refused n) = told n old

-- struct rtm_stamp, as one number: seconds, then nanoseconds or the fraction
abbrev pub stamp_seconds : ℕ → ℕ
stamp_seconds x = x % 4294967296

abbrev pub stamp_part : ℕ → ℕ
stamp_part x = x / 4294967296

abbrev pub stamps_of : Bool → ℕ → ℕ → Stamps
stamps_of ntp x y =
    cond ntp
    (Ntp (record { seconds = stamp_seconds x; fraction = stamp_part x }) (record { seconds = stamp_seconds y; fraction = stamp_part y }))
    (Ptp (record { seconds = stamp_seconds x; nanoseconds = stamp_part x }) (record { seconds = stamp_seconds y; nanoseconds = stamp_part y }))

-- struct rtm_fields, in 16 numbers of 16 bits: 0 to 3 the pad, 4 to 7 the clock identity, 8 Type, 9 the length that the sub-TLV states,
-- 10 port number, 11 sequence, 12 S in its low octet and PTPType in its high one, 13 to 15 reserved. 64 bits are four of them, the lowest first
unfoldable pub put64 : List ℕ → ℕ → ℕ → List ℕ
put64 w i x = set (set (set (set w i (x % 65536)) (i + 1) (x / 65536 % 65536)) (i + 2) (x / 4294967296 % 65536)) (i + 3) (x / 281474976710656 % 65536)

unfoldable pub get64 : List ℕ → ℕ → ℕ
get64 w i = get_or w i 0 + (get_or w (i + 1) 0 + (get_or w (i + 2) 0 + get_or w (i + 3) 0 * 65536) * 65536) * 65536

abbrev pub flags_of : SubTlv → ℕ
flags_of t = cond t.two_step 1 0 + t.ptp_type * 256

abbrev pub header_fields : List ℕ → Header → List ℕ
header_fields w h = set (put64 w 0 (of_z w64 h.pad)) 8 h.message_type

abbrev pub sub_tlv_fields : List ℕ → SubTlv → List ℕ
sub_tlv_fields w t = set (set (set (set (put64 w 4 t.clock) 9 t.length) 10 t.port) 11 t.sequence) 12 (flags_of t)

-- what reading writes there: for types 1 and 5 the sub-TLV's members stay as they came
abbrev pub message_fields : List ℕ → Message → List ℕ
message_fields w (plain h) = header_fields w h
message_fields w (ptp h t) = sub_tlv_fields (header_fields w h) t

-- and what is written of it: S is set by any value but 0
abbrev pub fields_in : List ℕ → Fields
fields_in w =
    record {
      header = record { message_type = get_or w 8 0; pad = to_z w64 (get64 w 0) };
      sub_tlv =
          record {
            length = get_or w 9 0;
            two_step = not (eqb (get_or w 12 0 % 256) 0);
            ptp_type = get_or w 12 0 / 256;
            clock = get64 w 4;
            port = get_or w 10 0;
            sequence = get_or w 11 0;
          };
    }

-- What is written to an output, with its size
pub record Sized : Type 0 where
  pub answer : ℕ
  pub output : List ℕ
  pub size : ℕ

abbrev pub size_or : ℕ → Answer ℕ → ℕ
size_or old (value n) = n
size_or old (refused n) = old

abbrev pub sized : ℕ → List ℕ → ℕ → Sized
sized r out n = record { answer = r; output = out; size = n }

abbrev pub sized_of : ℕ → Write → Sized
sized_of old w = sized (refusal_in w.answer) w.output (size_or old w.answer)

-- What is written to an output where its size is known
abbrev pub told_write : Write → Told (List ℕ)
told_write w = told (refusal_in w.answer) w.output

-- struct rtm_part, in two numbers: a part of a string, its offset and its length; here the packet that a message s carries
unfoldable pub put_part : List ℕ → ℕ → ℕ → List ℕ
put_part w o n = set (set w 0 o) 1 n

abbrev pub packet_part : List ℕ → List ℕ → List ℕ
packet_part w s = put_part w (packet_at (length s) (read_of s)) (length (carried_of s))

-- struct rtm_joined, in four: the total, which message's packet is shown (0 the Sync's, 1 the Follow_Up's), and that packet
unfoldable pub put_joined : List ℕ → ℤ → ℕ → List ℕ → List ℕ
put_joined w z k s = set (set (set (set w 0 (of_z w64 z)) 1 k) 2 (packet_at (length s) (read_of s))) 3 (length (carried_of s))

-- "The packet shown is the Follow_Up's carried packet, or the Sync's where that is empty."
abbrev pub joined_by : List ℕ → List ℕ → List ℕ → ℤ → List ℕ
joined_by w s f z = cond (eqb (length (carried_of f)) 0) (put_joined w z 0 s) (put_joined w z 1 f)

-- a refusal leaves the struct as it came
abbrev pub join_told : List ℕ → List ℕ → List ℕ → Answer ℤ → Told (List ℕ)
join_told w s f (value z) = told 0 (joined_by w s f z)
join_told w s f (refused n) = told n w

-- A call's answer as a number, with message and output afterwards, and the table
pub record Coded : Type 0 where
  pub answer : ℕ
  pub message : List ℕ
  pub output : List ℕ
  pub slots : Slots
  pub number : ℕ

abbrev pub coded_alone : ℕ → List ℕ → List ℕ → Slots → ℕ → Coded
coded_alone r m o t n = record { answer = r; message = m; output = o; slots = t; number = n }

abbrev pub coded_done : Done → Coded
coded_done d = coded_alone (code_of d.reply.answer) d.reply.message d.reply.output d.slots d.number

-- and with every word of a lent table, whose slots and number they mean
pub record CodedOn : Type 0 where
  pub coded : Coded
  pub words : List ℕ

abbrev pub coded_on : ℕ → List ℕ → List ℕ → List ℕ → CodedOn
coded_on r m o w = record { coded = coded_alone r m o (slots_of w) (number_of w); words = w }

abbrev pub coded_call : DoneOn → CodedOn
coded_call d = record { coded = coded_done d.done; words = d.words }

-- a load's answer as a number, with the table afterwards
pub record Lent : Type 0 where
  pub answer : ℕ
  pub slots : Slots
  pub number : ℕ
  pub words : List ℕ

abbrev pub lent : ℕ → List ℕ → Lent
lent r w = record { answer = r; slots = slots_of w; number = number_of w; words = w }

abbrev pub lent_of : Left → Lent
lent_of l = record { answer = refusal_in l.outcome.answer; slots = l.outcome.slots; number = l.outcome.number; words = l.words }
