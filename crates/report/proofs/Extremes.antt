-- The stays of a report: the least and the greatest are those of the stays that count, and the sum is theirs.
-- Assumes nothing.
use Prim.Native.Nat.{ℕ, zero, suc, ◌+◌, ◌≤◌}
use mathlib.Core.Path.{◌≡◌, refl, sym, subst, ◌∙◌}
use mathlib.Core.Bool.{Bool, true, false, cond}
use mathlib.Core.List.{List, [], ◌∷◌, ◌++◌, append-nil, append_assoc}
use mathlib.Core.Logic.{◌⊎◌, inl, inr}
use mathlib.Core.Option.{Option, none, some}
use native.Mathlib.Omega.{arith}
use borrow.Author.Tests.{leb-true, leb-false}
use lib.Dec.{leb}
use lib.ListN.{length, get_elem?, replicate}
use Rattle.records.specs.Slots.{zeros}
use Rattle.records.specs.Node.{Result, told, replied, taken_over, run}
use Rattle.image.specs.Layout.{sum}
use Rattle.report.specs.declared.Range.{Range}
use Rattle.report.specs.declared.Range.TheVariants.{Absent, Between}
use Rattle.report.specs.declared.Residences.{Residences}
use Rattle.report.specs.declared.Report.{Report}
use Rattle.report.specs.Report.{Counted, counting, lesser, greater, widened, with_residence, with_call, report_from, nothing_yet}
use Rattle.report.specs.Promises.{listed, residences_in, residences_of, Among, Spans, LeastAndGreatest, LeastFirst, SumOfResidences}

-- ---- one stay more at the end of a list

kept_among : (us vs : List ℕ) (i u : ℕ) → get_elem? us i ≡ some u → get_elem? (us ++ vs) i ≡ some u
kept_among [] vs i u e = absurd (let z : ◌≡◌ {A = ℕ} 0 1 = cc in omega arith)
kept_among (x ∷ us) vs zero u e = e
kept_among (x ∷ us) vs (suc i) u e = kept_among us vs i u e

last_among : (us : List ℕ) (v : ℕ) → get_elem? (us ++ v ∷ []) (length us) ≡ some v
last_among [] v = refl
last_among (x ∷ us) v = last_among us v

one_of : (us : List ℕ) (v i u : ℕ) → get_elem? (us ++ v ∷ []) i ≡ some u → (get_elem? us i ≡ some u) ⊎ (v ≡ u)
one_of [] v zero u e = inr cc
one_of [] v (suc i) u e = inl e
one_of (x ∷ us) v zero u e = inl e
one_of (x ∷ us) v (suc i) u e = one_of us v i u e

earlier : (us : List ℕ) (v u : ℕ) → Among u us → Among u (us ++ v ∷ [])
earlier us v u a = (a.0, kept_among us (v ∷ []) a.0 u a.1)

last : (us : List ℕ) (v : ℕ) → Among v (us ++ v ∷ [])
last us v = (length us, last_among us v)

-- ---- the least and the greatest with it

lesser_below : (a b : ℕ) → (lesser a b ≤ a) × (lesser a b ≤ b)
lesser_below a b = go (leb a b) refl
  where
    go : (t : Bool) → leb a b ≡ t → (cond t a b ≤ a) × (cond t a b ≤ b)
    go true e = (omega arith, leb-true a b e)
    go false e = (omega (arith, leb-false a b e), omega arith)

greater_above : (a b : ℕ) → (a ≤ greater a b) × (b ≤ greater a b)
greater_above a b = go (leb a b) refl
  where
    go : (t : Bool) → leb a b ≡ t → (a ≤ cond t b a) × (b ≤ cond t b a)
    go true e = (leb-true a b e, omega arith)
    go false e = (omega arith, omega (arith, leb-false a b e))

lesser-Among : (us : List ℕ) (least v : ℕ) → Among least us → Among (lesser least v) (us ++ v ∷ [])
lesser-Among us least v a = go (leb least v)
  where
    go : (b : Bool) → Among (cond b least v) (us ++ v ∷ [])
    go true = earlier us v least a
    go false = last us v

greater-Among : (us : List ℕ) (greatest v : ℕ) → Among greatest us → Among (greater greatest v) (us ++ v ∷ [])
greater-Among us greatest v a = go (leb greatest v)
  where
    go : (b : Bool) → Among (cond b v greatest) (us ++ v ∷ [])
    go true = last us v
    go false = earlier us v greatest a

widened-Spans : (x : Range) (us : List ℕ) (v : ℕ) → Spans x us → Spans (widened x v) (us ++ v ∷ [])
widened-Spans Absent us v h =
    subst (λ (ws : List ℕ). Spans (Between v v) (ws ++ v ∷ [])) (sym h) (last [] v, last [] v, λ u a. only u a.0 a.1)
  where
    only : (u i : ℕ) → get_elem? (v ∷ []) i ≡ some u → (v ≤ u) × (u ≤ v)
    only u zero e = let f : v ≡ u = cc in (omega arith, omega arith)
    only u (suc i) e = absurd (let z : ◌≡◌ {A = ℕ} 0 1 = cc in omega arith)
widened-Spans (Between least greatest) us v h = (
  lesser-Among us least v h.0,
  greater-Among us greatest v h.1,
  λ u a. within u a.0 (one_of us v a.0 u a.1),
)
  where
    within : (u i : ℕ) → (get_elem? us i ≡ some u) ⊎ (v ≡ u) → (lesser least v ≤ u) × (u ≤ greater greatest v)
    within u i (inl e) =
        let b = h.2 u (i, e) in
        (omega (arith, b.0, (lesser_below least v).0), omega (arith, b.1, (greater_above greatest v).0))
    within u i (inr e) = (omega (arith, (lesser_below least v).1), omega (arith, (greater_above greatest v).1))

-- ---- a whole list of results

residence_spans : (s : Residences) (us : List ℕ) (o : Option ℕ) → Spans s.range us → Spans (with_residence s o).range (us ++ listed o)
residence_spans s us none h = subst (Spans s.range) (sym (append-nil us)) h
residence_spans s us (some u) h = widened-Spans s.range us u h

spans_from :
    (xs : List (Result Counted)) (r : Report) (us : List ℕ)
    → Spans r.residences.range us
    → Spans (report_from r xs).residences.range (us ++ residences_in xs)
spans_from [] r us h = subst (Spans r.residences.range) (sym (append-nil us)) h
spans_from (told n ∷ xs) r us h = spans_from xs r us h
spans_from (replied x ∷ xs) r us h =
    subst (Spans (report_from (with_call r x) xs).residences.range) (append_assoc us (listed x.residence) (residences_in xs))
    (spans_from xs (with_call r x) (us ++ listed x.residence) (residence_spans r.residences us x.residence h))
spans_from (taken_over ∷ xs) r us h = spans_from xs r us h

pub least_and_greatest : LeastAndGreatest
least_and_greatest es = spans_from (run counting (replicate 16 zeros) es) nothing_yet [] refl

pub least_first : LeastFirst
least_first es least greatest e =
    let h = subst (λ (x : Range). Spans x (residences_of es)) e (least_and_greatest es) in
    (h.2 least h.0).1

-- the sum
sum_from : (xs : List (Result Counted)) (r : Report) → (report_from r xs).residences.sum ≡ r.residences.sum + sum (residences_in xs)
sum_from [] r = omega arith
sum_from (told n ∷ xs) r = sum_from xs r
sum_from (replied x ∷ xs) r = sum_from xs (with_call r x) ∙ go x.residence
  where
    go : (o : Option ℕ) → (with_residence r.residences o).sum + sum (residences_in xs) ≡ r.residences.sum + sum (listed o ++ residences_in xs)
    go none = refl
    go (some u) = omega arith
sum_from (taken_over ∷ xs) r = sum_from xs r

pub sum_of_residences : SumOfResidences
sum_of_residences es = omega (arith, sum_from (run counting (replicate 16 zeros) es) nothing_yet)
