-- A capture run body by body: what each turn adds, and that the report so far goes on to the report on the whole.
-- Assumes nothing.
use Prim.Native.Nat.{ℕ, suc, ◌+◌, ◌-◌, ◌<◌, ◌≤◌}
use mathlib.Core.Path.{◌≡◌, refl, ap, ◌∙◌}
use mathlib.Core.Bool.{Bool, true, false, ◌&&◌, ◌||◌, and-eq-true_iff}
use mathlib.Core.List.{List, map}
use borrow.Author.Tests.{leb-true}
use native.Mathlib.Omega.{arith}
use lib.Dec.{eqb, leb}
use lib.ListN.{length, replicate}
use Rattle.records.specs.Slots.{Slots, zeros}
use Rattle.records.specs.Node.{Event, tick, call, result, step, run}
use Rattle.rules.specs.Rules.{one_step, two_step, Call, rules}
use Rattle.words.specs.Words.{decoded, slots_of}
use Rattle.std.specs.Prelude.{cond, Some, None}
use Rattle.capture.specs.declared.kinds.Kind.{Kind}
use Rattle.capture.specs.declared.kinds.Kind.TheVariants.{OneStep, TwoStep, Tick}
use Rattle.capture.specs.Kinds.{kind_of}
use Rattle.capture.specs.Layout.{body_at, bodies_from, body_kind, is_body, are_bodies}
use Rattle.report.specs.declared.Report.{Report}
use Rattle.report.specs.Events.{call_in, event_in}
use Rattle.report.specs.Report.{counting, with_result, report_from, nothing_yet, report_of}
use Rattle.report.specs.Room.{Room}
use Rattle.report.proofs.Rooms.{room_first, room_on}

-- a table of zeros is empty
pub zeros_empty : slots_of (replicate 64 0) ≡ replicate 16 zeros
unfolding decoded slots_of
zeros_empty = refl

-- the event that a body of each kind is
abbrev pub event_by : Kind → List ℕ → Event Call
event_by Tick b = tick
event_by OneStep b = call (call_in one_step b)
event_by TwoStep b = call (call_in two_step b)

pub kind_event : (b : List ℕ) (k : Kind) → kind_of b ≡ Some k → event_by k b ≡ event_in b
unfolding event_in
kind_event b k h = go (is_body b) (eqb (body_kind b) 3) (eqb (body_kind b) 1) h
  where
    go :
        (t p q : Bool) → cond t (Some (cond p Tick (cond q OneStep TwoStep))) None ≡ Some k
        → event_by k b ≡ cond p tick (call (call_in (cond q one_step two_step) b))
    go true true q h = let e : k ≡ Tick = cc in ap (λ (x : Kind). event_by x b) e
    go true false true h = let e : k ≡ OneStep = cc in ap (λ (x : Kind). event_by x b) e
    go true false false h = let e : k ≡ TwoStep = cc in ap (λ (x : Kind). event_by x b) e
    go false p q h = cc

-- a recorded call has both stamps
pub both_stamps : (b : List ℕ) (k : Kind) → kind_of b ≡ Some k → (k ≡ Tick → ⊥) → 17 ≤ length b
unfolding is_body
both_stamps b k h d =
    leb-true 17 (length b) (go (eqb (body_kind b) 3) (eqb (body_kind b) 1) (eqb (body_kind b) 2) (eqb (length b) 1) (leb 17 (length b)) h)
  where
    go : (p q r one long : Bool) → cond (cond p one (long && (q || r))) (Some (cond p Tick (cond q OneStep TwoStep))) None ≡ Some k → long ≡ true
    go true q r true long h = absurd (d cc)
    go true q r false long h = absurd cc
    go false q r one true h = refl
    go false q r one false h = absurd cc

-- the report r and the slots t after k of n bodies
abbrev rest_from : List ℕ → ℕ → ℕ → List (Event Call)
rest_from s n k = map event_in (bodies_from s k (n - k))

abbrev pub Going : List ℕ → ℕ → Report → Slots → ℕ → Type 0
Going s n r t k =
    (k ≤ n)
    × Room k r t
    × (report_from r (run counting t (rest_from s n k)) ≡ report_of (map event_in (bodies_from s 0 n)))
    × (are_bodies (bodies_from s k (n - k)) ≡ true)

pub go_first :
    (s : List ℕ) (n : ℕ) (r : Report) (t : Slots)
    → r ≡ nothing_yet
    → t ≡ replicate 16 zeros
    → are_bodies (bodies_from s 0 n) ≡ true
    → Going s n r t 0
go_first s n r t er et h =
    let all : n - 0 ≡ n = omega arith in
    (omega arith, rw (er, et) room_first, rw (er, et, all) refl, rw all h)

module _ (s : List ℕ) (n k : ℕ) (r : Report) (t : Slots) (g : Going s n r t k) where
  -- the next of them is a body, and so are those behind it
  bodies_on : k < n → (is_body (body_at s k) ≡ true) × (are_bodies (bodies_from s (k + 1) (n - (k + 1))) ≡ true)
  bodies_on h =
      let one_more : n - k ≡ suc (n - (k + 1)) = omega arith in
      (and-eq-true_iff (is_body (body_at s k)) (are_bodies (bodies_from s (k + 1) (n - (k + 1))))).0 (rw one_more at g.3)

  pub next_body : k < n → is_body (body_at s k) ≡ true
  next_body h = (bodies_on h).0

  pub go_on :
      (r' : Report) (t' : Slots)
      → k < n
      → r' ≡ with_result r (result counting t (event_in (body_at s k)))
      → t' ≡ step rules t (event_in (body_at s k))
      → Going s n r' t' (k + 1)
  go_on r' t' h er et =
      let e = event_in (body_at s k) in
      let one_more : n - k ≡ suc (n - (k + 1)) = omega arith in
      let so_far : report_from (with_result r (result counting t e)) (run counting (step counting t e) (rest_from s n (k + 1))) ≡ report_of (map event_in (bodies_from s 0 n)) = rw one_more at g.2 in
      let same : t' ≡ step counting t e = et ∙ same_step t e in (
        omega arith,
        rw (er, et) (room_on k r t e g.1),
        (λ i. report_from (er i) (run counting (same i) (rest_from s n (k + 1)))) ∙ so_far,
        (bodies_on h).1,
      )
    where
      same_step : (t : Slots) (e : Event Call) → step rules t e ≡ step counting t e
      same_step t e = refl

  pub go_done : n ≤ k → r ≡ report_of (map event_in (bodies_from s 0 n))
  go_done h =
      let none : n - k ≡ 0 = omega arith in
      rw none at g.2
