-- The count of the entries: one more than that of the rest, and each has eight octets or more.
-- Assumes nothing.
use Prim.Native.Nat.{ℕ, zero, suc, ◌+◌, ◌*◌, ◌<◌, ◌≤◌}
use mathlib.Core.Path.{◌≡◌, refl, sym, ap, ◌∙◌}
use mathlib.Core.Bool.{Bool, true, false, cond, not}
use mathlib.Core.List.{List, []}
use native.Mathlib.Numerals.{add-one}
use native.Mathlib.Omega.{arith}
use lib.Dec.{eqb, ltb}
use lib.ListN.{length, get_or, take, drop, length-drop}
use Rattle.refusal.specs.Answer.{Answer, value, refused, refuse, and_then}
use Rattle.refusal.proofs.Answers.{not_both}
use Rattle.rtm_set.specs.Entries.{entry_size, front_size, is_entry, entries_within, entries_of, count_of}
use Rattle.rtm_set.proofs.Rest.{Front, front, before, entries_rest}

-- the count of an answer's entries
abbrev pub counted : Answer (List (List ℕ)) → Answer ℕ
counted a = and_then a (λ es. value (length es))

-- one entry more
abbrev pub more : Answer ℕ → Answer ℕ
more a = and_then a (λ m. value (m + 1))

pub count_rest : (s : List ℕ) (n : ℕ) → Front s n → length s ≤ 1024 → count_of s ≡ more (count_of (drop n s))
count_rest s n f short = ap counted (entries_rest s n f short) ∙ go (entries_of (drop n s))
  where
    go : (a : Answer (List (List ℕ))) → counted (before (take n s) a) ≡ more (counted a)
    go (value es) = ap value (sym (add-one (length es)))
    go (refused m) = refl

-- an entry has at least its head and four octets of address
size_least : (t : ℕ) → 0 < entry_size t → 8 ≤ entry_size t
size_least t h = go (eqb t 1) (eqb t 2) (eqb t 3) h
  where
    go : (a b c : Bool) → 0 < cond a 8 (cond b 20 (cond c 12 0)) → 8 ≤ cond a 8 (cond b 20 (cond c 12 0))
    go true b c h = omega arith
    go false true c h = omega arith
    go false false true h = omega arith
    go false false false h = absurd (omega arith)

pub front_least : (s : List ℕ) (n : ℕ) → Front s n → 8 ≤ n
front_least s n f =
    let e = f.size in
    let l = size_least (get_or s 0 0) (omega (arith, f.some)) in
    omega arith

-- an answer whose entries have room in m octets
abbrev Fit : ℕ → Answer (List (List ℕ)) → Type 0
Fit m (value es) = 8 * length es ≤ m
Fit m (refused n) = Unit {0}

fit : (k : ℕ) (s : List ℕ) → Fit (length s) (entries_within k s)
fit zero s = omega arith
fit (suc k) s =
    let n = front_size s in
    go (eqb (length s) 0) (is_entry s) refl (entries_within k (drop n s)) (fit k (drop n s))
  where
    go : (none is : Bool) → is_entry s ≡ is → (a : Answer (List (List ℕ))) → Fit (length (drop (front_size s) s)) a
        → Fit (length s) (cond none (value []) (refuse 20 (not is) (before (take (front_size s) s) a)))
    go true is e a h = omega arith
    go false false e a h = tt
    go false true e (refused m) h = tt
    go false true e (value es) h =
        let f = front s (front_size s) (rw e) e in
        let l = front_least s (front_size s) f in
        omega (arith, f.fits, length-drop (front_size s) s)

pub count_few : (s : List ℕ) (m : ℕ) → count_of s ≡ value m → 8 * m ≤ length s
count_few s m e = go (ltb 1024 (length s)) (entries_within (length s) s) (fit (length s) s) e
  where
    go : (long : Bool) (a : Answer (List (List ℕ))) → Fit (length s) a → counted (refuse 19 long a) ≡ value m → 8 * m ≤ length s
    go true a h q = absurd (not_both q)
    go false (value es) h q = let z : length es ≡ m = cc in omega arith
    go false (refused n) h q = absurd (not_both q)
