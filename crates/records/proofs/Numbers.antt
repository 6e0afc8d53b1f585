-- The number in the table: what leaves it as it came, that it is the number of the table's records after any calls, ticks and switchovers,
-- and so does not depend on their order.
-- Assumes nothing.
use Prim.Native.Nat.{ℕ, zero, suc, ◌+◌, ◌<◌, ◌≤◌}
use mathlib.Core.Path.{◌≡◌, refl, sym, ap, ◌∙◌}
use mathlib.Core.Bool.{Bool, true, false, cond, not, true≢false}
use mathlib.Core.List.{List, [], ◌∷◌}
use mathlib.Core.Option.{Option, none, some}
use native.Mathlib.Omega.{arith}
use borrow.Author.Tests.{ltb-true, le-leb, leb-true}
use lib.Dec.{leb}
use lib.ListN.{length, get_elem?, set, length-set, length-map}
use Rattle.refusal.specs.Answer.{Answer, value, refused}
use Rattle.records.specs.declared.Identity.{Identity}
use Rattle.records.specs.declared.Record.{Record}
use Rattle.records.specs.Slots.{Slots, empty, records_of, holds, zeros, lowest, find, fresh, vacant, add_answer, add_to, collect_answer, remove_from, aged, ticked, emptied, records_in}
use Rattle.records.specs.Node.{Request, nothing, add, collect, table_answer, add_leaves, collect_leaves, table_after, Node, Lawful, Event, tick, call, switchover, slots_taken_over, step, final}
use Rattle.records.specs.Number.{read_number, one_more, fewer, added_to, taken_from, number_after, recounted, request_of, number_step, NumberAside, NumberLeft, KeepsSlots, NumberCounts, NumbersAlike}
use Rattle.records.proofs.Holding.{holds-empty}
use Rattle.records.proofs.Orders.{ends_alike}
use Rattle.records.proofs.Tally.{tick_tells}

-- ---- how many records an operation leaves

records_added : (q : Identity) (u : ℕ) (t : Slots) → lowest empty t < length t → records_in (add_to q u t) ≡ suc (records_in t)
records_added q u [] l = absurd (omega arith)
records_added q u (s ∷ t) l = go (empty s) refl l (records_added q u t)
  where
    go :
        (b : Bool)
        → empty s ≡ b
        → cond b 0 (suc (lowest empty t)) < suc (length t)
        → (lowest empty t < length t → records_in (add_to q u t) ≡ suc (records_in t))
        → records_in (set (s ∷ t) (cond b 0 (suc (lowest empty t))) (fresh q u)) ≡ suc (records_in (s ∷ t))
    go true e k h = rw e
    go false e k h = rw e (ap suc (h (omega arith)))

records_removed : (q : Identity) (t : Slots) (r : Record) → find q t ≡ some r → records_in t ≡ suc (records_in (remove_from q t))
records_removed q [] r e = absurd (let z : ◌≡◌ {A = ℕ} 0 1 = cc in omega arith)
records_removed q (s ∷ t) r e = go (holds q s) refl (empty s) refl e (records_removed q t r)
  where
    go :
        (b : Bool)
        → holds q s ≡ b
        → (d : Bool)
        → empty s ≡ d
        → get_elem? (s ∷ t) (cond b 0 (suc (lowest (holds q) t))) ≡ some r
        → (find q t ≡ some r → records_in t ≡ suc (records_in (remove_from q t)))
        → records_in (s ∷ t) ≡ suc (records_in (set (s ∷ t) (cond b 0 (suc (lowest (holds q) t))) zeros))
    go true f true g k h = absurd (true≢false (sym f ∙ holds-empty q s g))
    go true f false g k h = rw g
    go false f true g k h = rw g (h k)
    go false f false g k h = rw g (ap suc (h k))

pub records_few : (t : Slots) → records_in t ≤ length t
records_few [] = omega arith
records_few (s ∷ t) = go (not (empty s)) (records_few t)
  where
    go : (b : Bool) → records_in t ≤ length t → cond b (suc (records_in t)) (records_in t) ≤ suc (length t)
    go true h = omega arith
    go false h = omega arith

pub records_same : (t : Slots) → records_in t ≡ length (records_of t)
records_same [] = refl
records_same (s ∷ t) = go (empty s) (records_same t)
  where
    go : (b : Bool) → records_in t ≡ length (records_of t) → cond (not b) (suc (records_in t)) (records_in t) ≡ length (cond b (records_of t) (s ∷ records_of t))
    go true h = h
    go false h = ap suc h

-- ---- any number

pub read_low : (n : ℕ) → read_number n ≤ 16
read_low n = go (leb n 16) refl
  where
    go : (b : Bool) → leb n 16 ≡ b → cond b n 16 ≤ 16
    go true e = leb-true n 16 e
    go false e = omega arith

pub number_aside : NumberAside
number_aside = (λ a t m n. (refl, refl), λ t m n. (refl, refl))

pub number_left : NumberLeft
number_left t n = (request, λ h. none_emptied (emptied t) (omega (arith, tick_tells t)))
  where
    none_emptied : (k : ℕ) → k ≡ 0 → fewer k n ≡ n
    none_emptied zero e = refl
    none_emptied (suc k) e = absurd (omega arith)

    request : (a : Request) → records_in (table_after a t) ≡ records_in t → (request_of a t n).number ≡ n
    request nothing h = refl
    request (add q u) h = go (find q t) (vacant t) refl h
      where
        go : (o : Option Record) (b : Bool) → vacant t ≡ b → records_in (add_leaves q u t (add_answer o b)) ≡ records_in t → added_to n (add_answer o b) ≡ n
        go (some r) b e k = refl
        go none false e k = refl
        go none true e k = absurd (omega (arith, records_added q u t (ltb-true (lowest empty t) (length t) e)))
    request (collect q) h = go (find q t) refl h
      where
        go : (o : Option Record) → find q t ≡ o → records_in (collect_leaves q t (collect_answer o)) ≡ records_in t → taken_from n (collect_answer o) ≡ n
        go none e k = refl
        go (some r) e k = absurd (omega (arith, records_removed q t r e))

-- ---- the number of the records

read_right : (n : ℕ) → n ≤ 16 → read_number n ≡ n
read_right n l = rw (le-leb n 16 l)

more_right : (n : ℕ) → suc n ≤ 16 → one_more n ≡ suc n
more_right n l = ap (λ (k : ℕ). read_number (suc k)) (read_right n (omega arith)) ∙ read_right (suc n) l

fewer_right : (k m n : ℕ) → n ≤ 16 → n ≡ m + k → fewer k n ≡ m
fewer_right zero m n l e = omega arith
fewer_right (suc k) m n l e = omega (arith, read_right n l)

-- what is asked for is the number itself
pub asked_right : (t : Slots) (n : ℕ) → length t ≡ 16 → n ≡ records_in t → read_number n ≡ records_in t
asked_right t n l e = read_right n (omega (arith, records_few t)) ∙ e

-- a request keeps it right, and the slots as many
module _ (t : Slots) (l : length t ≡ 16) where
  request_counts : (a : Request) → number_after a t (records_in t) ≡ records_in (table_after a t)
  request_counts nothing = refl
  request_counts (add q u) = go (find q t) (vacant t) refl
    where
      go : (o : Option Record) (b : Bool) → vacant t ≡ b → added_to (records_in t) (add_answer o b) ≡ records_in (add_leaves q u t (add_answer o b))
      go (some r) b e = refl
      go none false e = refl
      go none true e =
          let h = records_added q u t (ltb-true (lowest empty t) (length t) e) in
          more_right (records_in t) (omega (arith, h, l, records_few (add_to q u t), length-set t (lowest empty t) (fresh q u))) ∙ sym h
  request_counts (collect q) = go (find q t) refl
    where
      go : (o : Option Record) → find q t ≡ o → taken_from (records_in t) (collect_answer o) ≡ records_in (collect_leaves q t (collect_answer o))
      go none e = refl
      go (some r) e =
          let h = records_removed q t r e in
          fewer_right 1 (records_in (remove_from q t)) (records_in t) (omega (arith, l, records_few t)) (omega (arith, h))

  request_length : (a : Request) → length (table_after a t) ≡ 16
  request_length nothing = l
  request_length (add q u) = go (table_answer (add q u) t)
    where
      go : (a : Answer ℕ) → length (add_leaves q u t a) ≡ 16
      go (value n) = length-set t (lowest empty t) (fresh q u) ∙ l
      go (refused n) = l
  request_length (collect q) = go (table_answer (collect q) t)
    where
      go : (a : Answer ℕ) → length (collect_leaves q t a) ≡ 16
      go (value n) = length-set t (lowest (holds q) t) zeros ∙ l
      go (refused n) = l

module _ (N : Node) (K : KeepsSlots N) where
  step_counts : (t : Slots) → length t ≡ 16 → (e : Event N.Call) → number_step N t (records_in t) e ≡ records_in (step N t e)
  step_counts t l tick = fewer_right (emptied t) (records_in (ticked t)) (records_in t) (omega (arith, l, records_few t)) (tick_tells t)
  step_counts t l (call c) = request_counts t l (N.request c)
  step_counts t l switchover = go (N.handover t)
    where
      go : (a : Answer Slots) → recounted (records_in t) a ≡ records_in (slots_taken_over t a)
      go (value u) = refl
      go (refused n) = refl

  step-length : (t : Slots) → length t ≡ 16 → (e : Event N.Call) → length (step N t e) ≡ 16
  step-length t l tick = length-map t aged ∙ l
  step-length t l (call c) = request_length t l (N.request c)
  step-length t l switchover = K t l

  pub number_counts : NumberCounts N
  number_counts t n [] l h = h
  number_counts t n (e ∷ es) l h =
      number_counts (step N t e) (number_step N t n e) es (step-length t l e)
      (ap (λ (m : ℕ). number_step N t m e) h ∙ step_counts t l e)

  -- and there are always 16 slots
  pub final-length : (t : Slots) (es : List (Event N.Call)) → length t ≡ 16 → length (final N t es) ≡ 16
  final-length t [] l = l
  final-length t (e ∷ es) l = final-length (step N t e) es (step-length t l e)

  -- two orders leave as many records
  pub numbers_alike : Lawful N → NumbersAlike N
  numbers_alike L t n es fs R wes wfs l h =
      number_counts t n es l h
      ∙ ends_alike N L t es fs R wes wfs (λ s. not (empty s)) (λ s e. rw e)
      ∙ sym (number_counts t n fs l h)
