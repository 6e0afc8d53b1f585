-- The entries of a list are the one at its front and those of the rest.
-- Assumes nothing.
use Prim.Native.Nat.{ℕ, zero, suc, ◌<◌, ◌≤◌}
use mathlib.Core.Path.{◌≡◌, refl, ap, ◌∙◌}
use mathlib.Core.Bool.{Bool, true, false, cond, not, ◌&&◌, and-eq-true_iff}
use mathlib.Core.List.{List, [], ◌∷◌}
use native.Mathlib.Omega.{arith}
use borrow.Author.Tests.{eq-eqb, ne_eqb, le-ltb, eqb-true, eqb-false, leb-true, not-true, not-false}
use lib.Dec.{eqb, leb}
use lib.ListN.{length, get_or, take, drop, length-drop}
use Rattle.refusal.specs.Answer.{Answer, value, refused, refuse, and_then}
use Rattle.std.specs.Prelude.{Some, None}
use Rattle.rtm_set.specs.Entries.{front_size, is_entry, entries_within, entries_of}
use Rattle.rtm_set.specs.Answers.{front_of}

-- an entry of n octets at the front
pub record Front (s : List ℕ) (n : ℕ) : Type 0 where
  pub is : is_entry s ≡ true
  pub size : n ≡ front_size s
  pub told : get_or s 1 0 ≡ n
  pub some : 0 < n
  pub fits : n ≤ length s

-- what the size at the front tells, n: there is an entry exactly where it is not 0
module _ (s : List ℕ) (n : ℕ) (e : n ≡ cond (is_entry s) (front_size s) 0) where
  pub front : is_entry s ≡ true → Front s n
  front is =
      let m = front_size s in
      let known = (and-eq-true_iff (not (eqb m 0)) (eqb (get_or s 1 0) m && leb m (length s))).0 is in
      let whole = (and-eq-true_iff (eqb (get_or s 1 0) m) (leb m (length s))).0 known.1 in
      let size : n ≡ m = rw is at e in
      let some = eqb-false m 0 (not-true (eqb m 0) known.0) in
      let told = eqb-true (get_or s 1 0) m whole.0 in
      let fits = leb-true m (length s) whole.1 in
      record { is = is; size = size; told = omega arith; some = omega arith; fits = omega arith }

-- what is answered of the front: an entry of this size, or none
pub sized : (s : List ℕ) (n : ℕ) → front_of s ≡ Some n → Front s n
sized s n e = go (is_entry s) refl e
  where
    go : (b : Bool) → is_entry s ≡ b → cond b (Some (front_size s)) None ≡ Some n → Front s n
    go true is q = let size : n ≡ front_size s = cc in front s n (size ∙ rw is) is
    go false is q = absurd (cc)

-- the entries of an answer, with x before them
abbrev pub before : List ℕ → Answer (List (List ℕ)) → Answer (List (List ℕ))
before x a = and_then a (λ es. value (x ∷ es))

-- what follows a refusal's test matters only where the test fails
same_next : {A : Type 0} (n : ℕ) (t : Bool) (x y : Answer A) → (t ≡ false → x ≡ y) → refuse n t x ≡ refuse n t y
same_next n true x y e = refl
same_next n false x y e = e refl

-- any bound that is no less than the octets is enough
enough : (k j : ℕ) (s : List ℕ) → length s ≤ k → length s ≤ j → entries_within k s ≡ entries_within j s
enough zero zero s a b = refl
enough zero (suc j) s a b = rw (eq-eqb (length s) 0 (omega arith))
enough (suc k) zero s a b = rw (eq-eqb (length s) 0 (omega arith))
enough (suc k) (suc j) s a b =
    let n = front_size s in
    ap (cond (eqb (length s) 0) (value []))
    (same_next 20 (not (is_entry s)) _ _ (λ e.
    let is = not-false (is_entry s) e in
    let f = front s n (rw is) is in
    ap (before (take n s)) (enough k j (drop n s) (simp length-drop (omega arith)) (simp length-drop (omega arith)))))

-- "An entry is read, then the rest of the list in the same way"
reads : (s : List ℕ) → length s ≤ 1024 → (length s ≡ 0 → ⊥)
    → entries_of s ≡ refuse 20 (not (is_entry s)) (before (take (front_size s) s) (entries_of (drop (front_size s) s)))
reads s short some =
    let n = front_size s in
    let r = drop n s in
    rw (le-ltb 1024 (length s) short, le-ltb 1024 (length r) (simp length-drop (omega arith)))
    (enough (length s) (suc (length s)) s (omega arith) (omega arith)
    ∙ rw (ne_eqb (length s) 0 some)
    (same_next 20 (not (is_entry s)) _ _ (λ e. ap (before (take n s)) (enough (length s) (length r) r (simp length-drop (omega arith)) (omega arith)))))

pub entries_bad : (s : List ℕ) → length s ≤ 1024 → (length s ≡ 0 → ⊥) → is_entry s ≡ false → entries_of s ≡ refused 20
entries_bad s short some e = reads s short some ∙ rw e

pub entries_rest : (s : List ℕ) (n : ℕ) → Front s n → length s ≤ 1024 → entries_of s ≡ before (take n s) (entries_of (drop n s))
entries_rest s n f short = rw f.size (reads s short (λ e. omega arith) ∙ rw f.is)
