-- A node over the table: what a call asks of the table, what it replies, and runs of calls, ticks and switchovers. The rules of
-- document 01 are one such node (crate `rules`).
use Rattle.std.specs.Prelude.{ℕ, ◌≡◌, List, [], ◌∷◌}
use Rattle.std.proofs.Math.Option.{Option, none, some}
use Rattle.refusal.specs.Answer.{Answer, value, refused}
use Rattle.records.specs.declared.Identity.{Identity}
use Rattle.records.specs.Slots.{Slots, records_of, find, vacant, add_answer, add_to, collect_answer, remove_from, ticked, emptied}

-- what a call asks of the table
pub data Request : Type 0 where
  nothing : Request
  add : Identity → ℕ → Request
  collect : Identity → Request

-- A node. A call is one message with all that is handed in beside it, except the table. `identity` is that of the call's message,
-- where it has one. `reply` is made of the table's answer; it has all that the call leaves, except the table. `answer` is the reply's
-- answer. `handover` is the table with which the card that takes over goes on, or the refusal where there is no switchover.
pub record Node : Type 1 where
  pub Call : Type 0
  pub Reply : Type 0
  pub Word : Type 0
  pub identity : Call → Option Identity
  pub request : Call → Request
  pub reply : Call → Answer ℕ → Reply
  pub answer : Reply → Answer Word
  pub handover : Slots → Answer Slots

-- the table's answer to a request: 13, 14, 15, or the residence collected (0 where none is)
abbrev pub table_answer : Request → Slots → Answer ℕ
table_answer nothing t = value 0
table_answer (add q u) t = add_answer (find q t) (vacant t)
table_answer (collect q) t = collect_answer (find q t)

-- the table afterwards: a refusal leaves it as it came
abbrev pub add_leaves : Identity → ℕ → Slots → Answer ℕ → Slots
add_leaves q u t (value n) = add_to q u t
add_leaves q u t (refused n) = t

abbrev pub collect_leaves : Identity → Slots → Answer ℕ → Slots
collect_leaves q t (value u) = remove_from q t
collect_leaves q t (refused n) = t

abbrev pub table_after : Request → Slots → Slots
table_after nothing t = t
table_after (add q u) t = add_leaves q u t (table_answer (add q u) t)
table_after (collect q) t = collect_leaves q t (table_answer (collect q) t)

-- "Demand 3's lists hold node calls and ticks alone"; but it "reads a loaded table as the one written, if no call, a tick included,
-- falls between" (document 02, W-201), so that a switchover may stand anywhere among them
pub data Event (C : Type 0) : Type 0 where
  tick : Event C
  call : C → Event C
  switchover : Event C

-- what comes of an event: a tick's count, a call's reply; a switchover tells nothing
pub data Result (R : Type 0) : Type 0 where
  told : ℕ → Result R
  replied : R → Result R
  taken_over : Result R

-- a load, and so a switchover, leaves the table that it brings; where it is refused the table stays as it is
abbrev pub slots_taken_over : Slots → Answer Slots → Slots
slots_taken_over t (value u) = u
slots_taken_over t (refused n) = t

module _ (N : Node) where
  abbrev pub step : Slots → Event N.Call → Slots
  step t tick = ticked t
  step t (call c) = table_after (N.request c) t
  step t switchover = slots_taken_over t (N.handover t)

  abbrev pub result : Slots → Event N.Call → Result N.Reply
  result t tick = told (emptied t)
  result t (call c) = replied (N.reply c (table_answer (N.request c) t))
  result t switchover = taken_over

  -- "each call or tick finds the table as the one before left it": the results of a list, in its order, and the table at its end
  abbrev pub run : Slots → List (Event N.Call) → List (Result N.Reply)
  run t [] = []
  run t (e ∷ es) = result t e ∷ run (step t e) es

  abbrev pub final : Slots → List (Event N.Call) → Slots
  final t [] = t
  final t (e ∷ es) = final (step t e) es

-- What a node must satisfy for the theorem about orders: a call asks only for the record of its own identity, one that is told that
-- no slot is empty answers 14, and a switchover leaves the same records in the same order.
abbrev pub asked : Request → Option Identity
asked nothing = none
asked (add q u) = some q
asked (collect q) = some q

pub record Lawful (N : Node) : Type 0 where
  pub own : (c : N.Call) (q : Identity) → asked (N.request c) ≡ some q → N.identity c ≡ some q
  pub want : (c : N.Call) (q : Identity) (u : ℕ) → N.request c ≡ add q u → N.answer (N.reply c (refused 14)) ≡ refused 14
  pub kept : (t : Slots) → records_of (slots_taken_over t (N.handover t)) ≡ records_of t
