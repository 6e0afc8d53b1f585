-- The path of two messages, a first and a second: a Sync and its Follow_Up (demand 3, first half; document 01, "On the path each node
-- has such a list .."), or a Delay_Req and its Delay_Resp (document 02, W-204).
use Rattle.std.specs.Prelude.{ℕ, ◌+◌, ◌≡◌, Bool, true, false, ◌⊎◌, ℤ, pos, take}
use mathlib.Core.List.{List, [], ◌∷◌, ◌++◌, Permᴰ}
use Rattle.std.proofs.Math.Option.{Option, none, some}
use Rattle.std.proofs.Math.ListN.{get_elem?}
use Rattle.refusal.specs.Answer.{Answer, value, refused}
use Rattle.residence.specs.Residence.{accepted_of}
use Rattle.records.specs.declared.Identity.{Identity}
use Rattle.records.specs.Slots.{Slots, find}
use Rattle.records.specs.Node.{Event, tick, call, switchover, Result, told, replied, taken_over, run}
use Rattle.rules.specs.Change.{pad_of}
use Rattle.rules.specs.Rules.{Kind, sync, delay_req, follow_up, kind_of, kind_identity, Mode, Call, Word, created, Reply, rules}

-- A node of the path: "each in one fixed mode with a table of its own", its list of calls, ticks and switchovers, and the places in
-- it of the first message's call and, where the second crosses this node, of the second's.
pub record Stop : Type 0 where
  pub mode : Mode
  pub table : Slots
  pub events : List (Event Call)
  pub first_place : ℕ
  pub second_place : Option ℕ

-- what came of the event at place k of the node's whole list
abbrev pub result_at : Stop → ℕ → Option (Result Reply)
result_at n k = get_elem? (run rules n.table n.events) k

abbrev pub ReplyAt : Stop → ℕ → Reply → Type 0
ReplyAt n k r = result_at n k ≡ some (replied r)

-- the node's answer to the first message, and to the second where that crosses it
abbrev pub answer_in : Option (Result Reply) → Option (Answer Word)
answer_in none = none
answer_in (some (told n)) = none
answer_in (some (replied r)) = some r.answer
answer_in (some taken_over) = none

abbrev pub first_answer : Stop → Option (Answer Word)
first_answer n = answer_in (result_at n n.first_place)

abbrev pub answer_at : Stop → Option ℕ → Option (Answer Word)
answer_at n none = none
answer_at n (some k) = answer_in (result_at n k)

abbrev pub second_answer : Stop → Option (Answer Word)
second_answer n = answer_at n n.second_place

-- "Let no call on the two be refused": none on the first, and none on the second
abbrev pub FirstUnrefused : Stop → Type 0
FirstUnrefused n = (a : ℕ) → first_answer n ≡ some (refused a) → ⊥

abbrev pub SecondUnrefused : Stop → Type 0
SecondUnrefused n = (a : ℕ) → second_answer n ≡ some (refused a) → ⊥

abbrev pub Unrefused : Stop → Type 0
Unrefused n = FirstUnrefused n × SecondUnrefused n

-- The call at place k hands in the octets m, in this node's mode, and r comes of it.
pub record Visit (n : Stop) (k : ℕ) (m : List ℕ) (r : Reply) : Type 0 where
  pub handed : Call
  pub here : get_elem? n.events k ≡ some (call handed)
  pub mode : handed.mode ≡ n.mode
  pub octets : handed.message ≡ m
  pub outcome : ReplyAt n k r

-- "The list's starting table holds no record with the Sync's port and sequence, and no message in the list except the Sync and
-- the Follow_Up bears them." Only the identity is excluded: an unreadable message, or one of another PTPType, may stand there, and so may
-- a record or a message of the other kind (W-204).
pub record Apart (q : Identity) (n : Stop) : Type 0 where
  pub free : find q n.table ≡ none
  pub others :
      (k : ℕ) (c : Call)
      → get_elem? n.events k ≡ some (call c)
      → kind_identity (kind_of c.message) ≡ some q
      → (k ≡ n.first_place) ⊎ (some k ≡ n.second_place)

abbrev pub Every : (Stop → Type 0) → List Stop → Type 0
Every P [] = Unit {0}
Every P (n ∷ ns) = P n × Every P ns

-- a first message: a Sync, with S set or clear, or a Delay_Req
pub data First (q : Identity) : Kind → Type 0 where
  of_sync : (s : Bool) → First q (sync q s)
  of_delay : First q (delay_req q)

-- "The Sync takes the nodes in the path's order", and "comes to a node with the octets that the node before left": it starts
-- with the octets s and ends with the last ones. So does a Delay_Req.
pub data FirstWay : List ℕ → List Stop → List ℕ → Type 0 where
  done : {s : List ℕ} → FirstWay s [] s
  cross :
      {n : Stop} {ns : List Stop} {s last : List ℕ} {r : Reply}
      → Visit n n.first_place s r
      → FirstWay r.message ns last
      → FirstWay s (n ∷ ns) last

-- the second message likewise, over its nodes in its own order
pub data SecondWay : List ℕ → List Stop → List ℕ → Type 0 where
  done : {f : List ℕ} → SecondWay f [] f
  cross :
      {n : Stop} {ns : List Stop} {f last : List ℕ} {r : Reply} (k : ℕ)
      → n.second_place ≡ some k
      → Visit n k f r
      → SecondWay r.message ns last
      → SecondWay f (n ∷ ns) last

-- the second message does not cross the node
abbrev pub Uncrossed : Stop → Type 0
Uncrossed n = n.second_place ≡ none

-- The Follow_Up of a Sync with this S over a path, by its starting pad and its final one.
pub data FollowUps (q : Identity) : Bool → List Stop → ℤ → ℤ → Type 0 where
  -- "With S set, its Follow_Up crosses the same nodes once each", in any order; it "is any readable message of PTPType 8 with
  -- that port and sequence"
  existing :
      {ns fs : List Stop} {f last : List ℕ}
      → kind_of f ≡ follow_up q
      → Permᴰ fs ns
      → SecondWay f fs last
      → FollowUps q true ns (pad_of f) (pad_of last)
  -- "With S clear it has none until a node creates one, its starting pad counted as 0, which then crosses the nodes after", in
  -- any order; "a created one leaves its node as the 36 octets written"
  born :
      (before : List Stop) (n : Stop) {after fs : List Stop} {r : Reply} {last : List ℕ}
      → Every Uncrossed before
      → Uncrossed n
      → ReplyAt n n.first_place r
      → r.answer ≡ value created
      → Permᴰ fs after
      → SecondWay (take 36 r.output) fs last
      → FollowUps q false (before ++ n ∷ after) (pos 0) (pad_of last)
  -- "a missing Follow_Up counting 0": no node creates one
  never :
      {ns : List Stop}
      → Every (λ n. Uncrossed n × (first_answer n ≡ some (value created) → ⊥)) ns
      → FollowUps q false ns (pos 0) (pos 0)

-- "the stays those of the Sync's calls in pad units", or of the Delay_Req's
abbrev pub units_of : Answer ℕ → ℕ
units_of (value u) = u
units_of (refused n) = 0

abbrev pub units_in : Option (Event Call) → ℕ
units_in none = 0
units_in (some tick) = 0
units_in (some switchover) = 0
units_in (some (call c)) = units_of (accepted_of c.residence)

abbrev pub residence_at : Stop → ℕ
residence_at n = units_in (get_elem? n.events n.first_place)

abbrev pub residences : List Stop → ℕ
residences [] = 0
residences (n ∷ ns) = residence_at n + residences ns
