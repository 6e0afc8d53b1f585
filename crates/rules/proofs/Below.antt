-- No residence that waits reaches the limit: from a new or a loaded table on, what calls, ticks and switchovers leave keeps below it, and so
-- does what the table answers.
-- Assumes nothing.
use Prim.Native.Nat.{ℕ, zero, suc, ◌<◌}
use mathlib.Core.Path.{◌≡◌, refl, sym, ap, ◌∙◌}
use mathlib.Core.Bool.{Bool, true, false, cond, false≢true, and-eq-true_iff}
use mathlib.Core.List.{List, [], ◌∷◌}
use mathlib.Core.Option.{Option, none, some}
use native.Mathlib.Omega.{arith}
use borrow.Author.Tests.{ltb-true, lt-ltb}
use lib.Dec.{eqb-suc-zero}
use lib.ListN.{get_elem?}
use Rattle.refusal.specs.Answer.{Answer, value, refused}
use Rattle.residence.specs.Residence.{Residence}
use Rattle.residence.specs.Residence.{limit, accepted_of}
use Rattle.residence.proofs.Limit.{below_limit}
use Rattle.records.specs.declared.Identity.{Identity}
use Rattle.records.specs.declared.Record.{Record}
use Rattle.records.specs.Slots.{Slots, empty, holds, zeros, records_of, lowest, find, fresh, vacant, add_answer, collect_answer, aged, aged_by, ticked}
use Rattle.records.specs.Node.{Request, nothing, add, collect, table_answer, add_leaves, collect_leaves, table_after, Event, tick, call, switchover, step, final}
use Rattle.records.proofs.Holding.{holds-empty, with_wait}
use Rattle.image.specs.Image.{right_residence, every}
use Rattle.image.proofs.Serving.{in_slot, records_every, every_map, every_set, sound_right}
use Rattle.image.proofs.Returns.{switched_keeps}
use Rattle.rules.specs.Rules.{kind_of, Call, rules}
use Rattle.rules.specs.Path.{units_of}
use Rattle.rules.specs.Service.{ResidencesBelow}
use Rattle.rules.proofs.Laws.{asks_add}
use Rattle.rules.proofs.Serves.{started}

-- the residence of each record is below the limit, and so each slot is empty or below it
abbrev pub Below : Slots → Type 0
Below t = every right_residence (records_of t) ≡ true

abbrev slot_below : Record → Bool
slot_below s = in_slot right_residence s

by_slot : (t : Slots) → Below t → every slot_below t ≡ true
by_slot t b = sym (records_every right_residence t) ∙ b

by_record : (t : Slots) → every slot_below t ≡ true → Below t
by_record t e = records_every right_residence t ∙ e

-- ---- what becomes of it

aged_below : (s : Record) → slot_below s ≡ true → slot_below (aged s) ≡ true
aged_below s = go s.wait
  where
    go : (w : ℕ) → slot_below (with_wait s w) ≡ true → slot_below (aged_by w (with_wait s w)) ≡ true
    go zero e = e
    go (suc zero) e = refl
    go (suc (suc w)) e = rw (eqb-suc-zero w) (rw (eqb-suc-zero (suc w)) at e)

request_below : (a : Request) (t : Slots) → ((q : Identity) (u : ℕ) → a ≡ add q u → u < limit) → Below t → Below (table_after a t)
request_below nothing t h b = b
request_below (add q u) t h b = go (table_answer (add q u) t)
  where
    go : (a : Answer ℕ) → Below (add_leaves q u t a)
    go (value n) =
        by_record (add_leaves q u t (value n))
        (every_set slot_below (fresh q u) (lt-ltb u limit (h q u refl)) t (lowest empty t) (by_slot t b))
    go (refused n) = b
request_below (collect q) t h b = go (table_answer (collect q) t)
  where
    go : (a : Answer ℕ) → Below (collect_leaves q t a)
    go (value n) = by_record (collect_leaves q t (value n)) (every_set slot_below zeros refl t (lowest (holds q) t) (by_slot t b))
    go (refused n) = b

pub step-Below : (t : Slots) (e : Event Call) → Below t → Below (step rules t e)
step-Below t tick b = by_record (ticked t) (every_map slot_below aged aged_below t (by_slot t b))
step-Below t (call c) b =
    request_below (rules.request c) t (λ q u e. below_limit c.residence u (asks_add c.mode c.residence (kind_of c.message) q u e).3) b
step-Below t switchover b = ap (every right_residence) (switched_keeps t) ∙ b

final-Below : (es : List (Event Call)) (t : Slots) → Below t → Below (final rules t es)
final-Below [] t b = b
final-Below (e ∷ es) t b = final-Below es (step rules t e) (step-Below t e b)

every_at : (p : Record → Bool) (rs : Slots) (k : ℕ) (r : Record) → every p rs ≡ true → get_elem? rs k ≡ some r → p r ≡ true
every_at p [] k r e g = absurd (let z : ◌≡◌ {A = ℕ} 0 1 = cc in omega arith)
every_at p (s ∷ rs) zero r e g = let same : s ≡ r = cc in rw (← same) ((and-eq-true_iff (p s) (every p rs)).0 e).0
every_at p (s ∷ rs) (suc k) r e g = every_at p rs k r ((and-eq-true_iff (p s) (every p rs)).0 e).1 g

pub residences_below : ResidencesBelow
residences_below t n es s k r g =
    ltb-true r.residence limit
    (every_at right_residence (records_of (final rules t es)) k r (final-Below es t (sound_right t (started t n s))) g)

-- ---- what is answered

-- a record that is found
found_below : (q : Identity) (t : Slots) (r : Record) → find q t ≡ some r → Below t → r.residence < limit
found_below q [] r e b = absurd (let z : ◌≡◌ {A = ℕ} 0 1 = cc in omega arith)
found_below q (s ∷ t) r e b = go (holds q s) refl (empty s) refl e b (λ g k. found_below q t r g k)
  where
    here : (d : Bool) → empty s ≡ d → holds q s ≡ true → every right_residence (cond d (records_of t) (s ∷ records_of t)) ≡ true → s.residence < limit
    here true f h k = absurd (false≢true (sym (holds-empty q s f) ∙ h))
    here false f h k = ltb-true s.residence limit ((and-eq-true_iff (right_residence s) (every right_residence (records_of t))).0 k).0

    rest : (d : Bool) → every right_residence (cond d (records_of t) (s ∷ records_of t)) ≡ true → Below t
    rest true k = k
    rest false k = ((and-eq-true_iff (right_residence s) (every right_residence (records_of t))).0 k).1

    go :
        (h : Bool)
        → holds q s ≡ h
        → (d : Bool)
        → empty s ≡ d
        → get_elem? (s ∷ t) (cond h 0 (suc (lowest (holds q) t))) ≡ some r
        → every right_residence (cond d (records_of t) (s ∷ records_of t)) ≡ true
        → (find q t ≡ some r → Below t → r.residence < limit)
        → r.residence < limit
    go true eh d ed g k further = let same : s ≡ r = cc in rw (← same) (here d ed eh k)
    go false eh d ed g k further = further g (rest d k)

pub answer_below : (a : Request) (t : Slots) → Below t → units_of (table_answer a t) < limit
answer_below nothing t b = omega arith
answer_below (add q u) t b = go (find q t) (vacant t)
  where
    go : (o : Option Record) (d : Bool) → units_of (add_answer o d) < limit
    go (some r) d = omega arith
    go none true = omega arith
    go none false = omega arith
answer_below (collect q) t b = go (find q t) refl
  where
    go : (o : Option Record) → find q t ≡ o → units_of (collect_answer o) < limit
    go none e = omega arith
    go (some r) e = found_below q t r e b

pub own_below : (r : Residence) → units_of (accepted_of r) < limit
own_below r = go (accepted_of r) refl
  where
    go : (a : Answer ℕ) → accepted_of r ≡ a → units_of a < limit
    go (value u) e = below_limit r u e
    go (refused n) e = omega arith
