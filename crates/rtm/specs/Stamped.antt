-- Calls with stamps, and their runs: a run of such calls is the run of the same calls with their residences, so that demand 3's
-- theorems (crate `rules`) speak of them too. The calls of one list, and the nodes of one path, may have stamps of different formats.
use Rattle.std.specs.Prelude.{ℕ, ◌+◌, ◌≡◌, Bool, false, cond, eqb, ℤ, pos, ◌+ℤ◌}
use mathlib.Core.List.{List, [], ◌∷◌, ◌++◌, map, Permᴰ}
use Rattle.std.proofs.Math.Option.{Option, none, some}
use Rattle.std.proofs.Math.ListN.{get_elem?}
use Rattle.refusal.specs.Answer.{Answer, value, refused}
use Rattle.residence.specs.Residence.{Residence}
use Rattle.std.specs.Prelude.{Ok, Err}
use Rattle.residence.specs.declared.ResidenceError.TheVariants.{InvalidStamp, TooLong}
use Rattle.stamp.specs.declared.stamps.Stamps.{Stamps}
use Rattle.stamp.specs.Stamps.{residence_of}
use Rattle.scratch_pad.specs.Sum.{too_big}
use Rattle.records.specs.declared.Identity.{Identity}
use Rattle.records.specs.Slots.{Slots}
use Rattle.records.specs.Node.{Node, Event, tick, call, switchover, run, final}
use Rattle.records.specs.Order.{OrderFree}
use Rattle.records.specs.Number.{final_number}
use Rattle.rules.specs.Change.{pad_of}
use Rattle.rules.specs.declared.Handled.{Handled as Word}
use Rattle.rules.specs.Rules.{Mode, Call, Reply, sync, delay_req, delay_resp, kind_of, rules, call_of}
use Rattle.rules.specs.Path.{Stop, Unrefused, Apart, Every, FirstWay, SecondWay, FollowUps, units_of}
use Rattle.rules.specs.Service.{NumberInService, NumberOrderFree}

-- the residence whose answer is given: 9 an invalid stamp, 10 too long
abbrev pub residence_by : Answer ℕ → Residence
residence_by (value u) = Ok u
residence_by (refused n) = cond (eqb n 9) (Err InvalidStamp) (Err TooLong)

-- the residence between two stamps, as it goes on to the node's rules
abbrev pub stamped_residence : Stamps → Residence
stamped_residence s = residence_by (residence_of s)

-- a node call with its stamps
pub record StampedCall : Type 0 where
  pub mode : Mode
  pub message : List ℕ
  pub stamps : Stamps
  pub output : List ℕ

-- the same call with its residence
abbrev pub handed_call : Mode → List ℕ → List ℕ → Stamps → Call
handed_call m s o stamps = record { mode = m; message = s; residence = stamped_residence stamps; output = o }

abbrev pub handed : StampedCall → Call
handed c = handed_call c.mode c.message c.output c.stamps

abbrev pub handed_event : Event StampedCall → Event Call
handed_event tick = tick
handed_event (call c) = call (handed c)
handed_event switchover = switchover

-- the node whose calls have stamps
abbrev pub stamped : Node
stamped =
    record {
      Call = StampedCall;
      Reply = Reply;
      Word = Word;
      identity = λ c. rules.identity (handed c);
      request = λ c. rules.request (handed c);
      reply = λ c. rules.reply (handed c);
      answer = rules.answer;
      handover = rules.handover;
    }

-- a run of calls with stamps is the run of the same calls with their residences
abbrev pub SameRun : Type 0
SameRun =
    (t : Slots) (n : ℕ) (es : List (Event StampedCall))
    → (run stamped t es ≡ run rules t (map handed_event es))
    × (final stamped t es ≡ final rules t (map handed_event es))
    × (final_number stamped t n es ≡ final_number rules t n (map handed_event es))

-- and the order of calls with stamps does not matter
abbrev pub StampedOrderDoesNotMatter : Type 0
StampedOrderDoesNotMatter = OrderFree stamped

-- nor does it for the number, which is that of the records (document 02, W-206)
abbrev pub StampedNumberInService : Type 0
StampedNumberInService = NumberInService stamped

abbrev pub StampedNumberOrderFree : Type 0
StampedNumberOrderFree = NumberOrderFree stamped

-- no call with stamps, of either format, is refused with 11 (document 02, W-210)
abbrev pub StampedElevenWithdrawn : Type 0
StampedElevenWithdrawn = (t : Slots) (n : ℕ) (c : StampedCall) → (call_of t n (handed c)).reply.answer ≡ refused 11 → ⊥

-- A node of a path whose calls have stamps, as a node of the path theorem: by `SameRun` the results at its places are its own.
pub record StampedStop : Type 0 where
  pub mode : Mode
  pub table : Slots
  pub events : List (Event StampedCall)
  pub first_place : ℕ
  pub second_place : Option ℕ

abbrev pub as_stop : StampedStop → Stop
as_stop n =
    record {
      mode = n.mode;
      table = n.table;
      events = map handed_event n.events;
      first_place = n.first_place;
      second_place = n.second_place;
    }

-- the stamps of the first message's calls along a path
abbrev pub stamps_in : Option (Event StampedCall) → List Stamps
stamps_in none = []
stamps_in (some tick) = []
stamps_in (some switchover) = []
stamps_in (some (call c)) = c.stamps ∷ []

abbrev pub first_stamps : List StampedStop → List Stamps
first_stamps [] = []
first_stamps (n ∷ ns) = stamps_in (get_elem? n.events n.first_place) ++ first_stamps ns

abbrev pub total : (Stamps → ℕ) → List Stamps → ℕ
total f [] = 0
total f (s ∷ ss) = f s + total f ss

-- "the stays those of the Sync's calls in pad units", or of the Delay_Req's: "Demand 3's stays are the rounded ones"
abbrev pub units : Stamps → ℕ
units s = units_of (residence_of s)

-- the sum of the pads over a path, for calls with stamps: of a Sync and its Follow_Up
abbrev pub StampedPathSum : Type 0
StampedPathSum =
    (q : Identity) (s : Bool) (start last : List ℕ) (path : List StampedStop) (first second : ℤ)
    → kind_of start ≡ sync q s
    → Every (Apart q) (map as_stop path)
    → Every Unrefused (map as_stop path)
    → FirstWay start (map as_stop path) last
    → FollowUps q s (map as_stop path) first second
    → too_big (pad_of last) ≡ false
    → too_big second ≡ false
    → pad_of last +ℤ second ≡ pad_of start +ℤ first +ℤ pos (total units (first_stamps path))

-- and of a Delay_Req and its Delay_Resp
abbrev pub StampedDelayPathSum : Type 0
StampedDelayPathSum =
    (q : Identity) (request arrived response returned : List ℕ) (path back : List StampedStop)
    → kind_of request ≡ delay_req q
    → kind_of response ≡ delay_resp q
    → Every (Apart q) (map as_stop path)
    → Every Unrefused (map as_stop path)
    → FirstWay request (map as_stop path) arrived
    → Permᴰ back path
    → SecondWay response (map as_stop back) returned
    → too_big (pad_of arrived) ≡ false
    → too_big (pad_of returned) ≡ false
    → pad_of arrived +ℤ pad_of returned ≡ pad_of request +ℤ pad_of response +ℤ pos (total units (first_stamps path))
