-- Demand 3: two theorems about whole lists of node calls and ticks, and how long a record waits. In all of them switchovers may stand
-- anywhere in a list, also at its start and its end: the table is replaced by its written and loaded self (document 02, W-201: "Demand 3
-- reads a loaded table as the one written"), whatever kinds of records wait (W-211), or stays as it is where it cannot be written, as no
-- table in service does (Service `AlwaysWritten`). A list without any is one of these lists.
use Rattle.std.specs.Prelude.{ℕ, ◌+◌, ◌<◌, ◌≤◌, ◌≡◌, Bool, false, ℤ, pos, ◌+ℤ◌, take}
use mathlib.Core.List.{List, Permᴰ}
use Rattle.std.proofs.Math.Option.{none, some}
use Rattle.std.proofs.Math.ListN.{get_elem?}
use Rattle.refusal.specs.Answer.{value, refused}
use Rattle.residence.specs.Residence.{accepted_of}
use Rattle.scratch_pad.specs.Sum.{too_big}
use Rattle.records.specs.declared.Identity.{Identity}
use Rattle.records.specs.Slots.{Slots, find}
use Rattle.records.specs.Node.{Event, call, replied, run, final}
use Rattle.records.specs.Order.{ticks, OrderFree}
use Rattle.rules.specs.Change.{pad_of}
use Rattle.rules.specs.Rules.{sync, delay_req, delay_resp, first_of, second_of, kind_of, kind_identity}
use Rattle.rules.specs.Rules.{two_step, Call, waiting, added, as_it_came, add_to_pad, rules}
use Rattle.rules.specs.Path.{Stop, Unrefused, Apart, Every, FirstWay, SecondWay, FollowUps, residences}

-- First half. "Let no call on the two be refused .. Then, whatever other calls, refused ones too, and ticks those nodes get, the sum of
-- the final pads is the sum of the starting pads plus every stay of the Sync, a missing Follow_Up counting 0." It "holds where both final
-- pads are below 2^63-1" (document 02, W-205). The sums are of whole numbers; the path has any length, also none. That the Follow_Up
-- reaches each node after the Sync and before its record there ages out need not be asked: a two-step node refuses a call on it that is
-- early or late with 15 (`Credited` LostWhereRefused). What the sum is where calls are refused: `Credited` CreditedSum.
abbrev pub PathSum : Type 0
PathSum =
    (q : Identity) (s : Bool) (start last : List ℕ) (path : List Stop) (first second : ℤ)
    → kind_of start ≡ sync q s
    → Every (Apart q) path
    → Every Unrefused path
    → FirstWay start path last
    → FollowUps q s path first second
    → too_big (pad_of last) ≡ false
    → too_big second ≡ false
    → pad_of last +ℤ second ≡ pad_of start +ℤ first +ℤ pos (residences path)

-- "Demand 3 holds for a Delay_Req and its Delay_Resp where both cross the same nodes, each once, with the Delay_Resp's pad as the second"
-- (document 02, W-204). The Delay_Resp takes them in any order, as a rule backwards; S has no part in it, and nothing is created.
abbrev pub DelayPathSum : Type 0
DelayPathSum =
    (q : Identity) (request arrived response returned : List ℕ) (path back : List Stop)
    → kind_of request ≡ delay_req q
    → kind_of response ≡ delay_resp q
    → Every (Apart q) path
    → Every Unrefused path
    → FirstWay request path arrived
    → Permᴰ back path
    → SecondWay response back returned
    → too_big (pad_of arrived) ≡ false
    → too_big (pad_of returned) ≡ false
    → pad_of arrived +ℤ pad_of returned ≡ pad_of request +ℤ pad_of response +ℤ pos (residences path)

-- Second half. "take every list of node calls, refused ones too, and ticks, from any table, and every other order of it that keeps
-- each identity's order and each call between the same ticks. If neither refuses a call for want of a slot, the two give equal
-- answers, equal octets and, slots aside, equal records." The number of a table's records, which "Demand 3 compares .. too" (W-206), has a
-- statement of its own, from a new or loaded table alone: `Service` NumberOrderFree.
abbrev pub OrderDoesNotMatter : Type 0
OrderDoesNotMatter = OrderFree rules

-- The call on a Sync or a Delay_Req at place i of a list was answered "waiting", and the call on its Follow_Up or Delay_Resp at place j is
-- the next of the identity, whose kind says which of the two pairs it is.
pub record Waiting (t : Slots) (es : List (Event Call)) (q : Identity) (u i j : ℕ) (d : Call) : Type 0 where
  pub handed : Call
  pub here : get_elem? es i ≡ some (call handed)
  pub at_two_step : handed.mode ≡ two_step
  pub is_first : kind_of handed.message ≡ first_of q.kind q
  pub units : accepted_of handed.residence ≡ value u
  pub outcome : get_elem? (run rules t es) i ≡ some (replied (as_it_came handed (value waiting)))
  pub then : i < j
  pub there : get_elem? es j ≡ some (call d)
  pub two_step_too : d.mode ≡ two_step
  pub is_second : kind_of d.message ≡ second_of q.kind q
  pub between : (k : ℕ) (c : Call) → i < k → k < j → get_elem? es k ≡ some (call c) → kind_identity (kind_of c.message) ≡ some q → ⊥

-- up to the second tick the second message is added to, with the first one's residence
abbrev pub AddedInTime : Type 0
AddedInTime =
    (t : Slots) (es : List (Event Call)) (q : Identity) (u i j : ℕ) (d : Call)
    → Waiting t es q u i j d
    → ticks j es ≤ ticks i es + 2
    → get_elem? (run rules t es) j ≡ some (replied (add_to_pad d added u))

-- "A record ages out at the third tick after the Sync's call at that node.": the record is gone, and the second message refused with 15
abbrev pub GoneAtThirdTick : Type 0
GoneAtThirdTick =
    (t : Slots) (es : List (Event Call)) (q : Identity) (u i j : ℕ) (d : Call)
    → Waiting t es q u i j d
    → ticks i es + 3 ≤ ticks j es
    → (find q (final rules t (take j es)) ≡ none) × (get_elem? (run rules t es) j ≡ some (replied (as_it_came d (refused 15))))
