-- How long a record waits, over whole lists (document 01: "A record put in by a message and not collected is gone at its third
-- tick."; "A record ages out at the third tick after the Sync's call at that node.").
use Rattle.std.specs.Prelude.{ℕ, ◌+◌, ◌<◌, ◌≤◌, ◌≡◌, List, take}
use Rattle.std.proofs.Math.Option.{none, some}
use Rattle.std.proofs.Math.ListN.{get_elem?}
use Rattle.refusal.specs.Answer.{value}
use Rattle.records.specs.declared.Identity.{Identity}
use Rattle.records.specs.Slots.{Slots, find, ticked, emptied, records_in}
use Rattle.records.specs.Node.{Node, add, collect, table_answer, Event, call, final}
use Rattle.records.specs.Order.{ticks}

-- a call at place i of a run puts in a record of identity q and residence u, and no other call of that identity comes before place j
pub record Waits (N : Node) (t : Slots) (es : List (Event N.Call)) (q : Identity) (u i j : ℕ) : Type 0 where
  pub adder : N.Call
  pub here : get_elem? es i ≡ some (call adder)
  pub asks : N.request adder ≡ add q u
  pub taken : table_answer (add q u) (final N t (take i es)) ≡ value 0
  pub before : i < j
  pub alone : (k : ℕ) (c : N.Call) → i < k → k < j → get_elem? es k ≡ some (call c) → N.identity c ≡ some q → ⊥

-- up to the second tick the record is found, with the residence that was put in
abbrev pub FoundInTime : Node → Type 0
FoundInTime N =
    (t : Slots) (es : List (Event N.Call)) (q : Identity) (u i j : ℕ)
    → Waits N t es q u i j
    → ticks j es ≤ ticks i es + 2
    → table_answer (collect q) (final N t (take j es)) ≡ value u

-- from the third tick on the table has no record of the identity
abbrev pub GoneAtThird : Node → Type 0
GoneAtThird N =
    (t : Slots) (es : List (Event N.Call)) (q : Identity) (u i j : ℕ)
    → Waits N t es q u i j
    → ticks i es + 3 ≤ ticks j es
    → find q (final N t (take j es)) ≡ none

-- "tells how many it emptied": the records before a tick are those after it and those that it tells of
abbrev pub TickTells : Type 0
TickTells = (t : Slots) → records_in t ≡ records_in (ticked t) + emptied t
