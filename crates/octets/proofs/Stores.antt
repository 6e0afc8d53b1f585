-- Octets stored one field after another: what is written so far stands before the rest of the output as it was.
-- Assumes nothing.
use Prim.Native.Nat.{ℕ, ◌+◌, ◌-◌, ◌≤◌}
use mathlib.Core.Path.{◌≡◌, sym, ap, ◌∙◌}
use mathlib.Core.List.{List, ◌++◌, append-nil, append_assoc}
use native.Mathlib.Omega.{arith}
use borrow.Author.Tests.{le-leb}
use lib.ListN.{length, take, drop, drop_of_length-le, length-append, length-drop}
use lib.Seq.{take_all, take_at, drop_at, drop-append-add, drop-drop}
use Rattle.octets.specs.Octets.{put}

-- the part from n on, as the code makes it: it ends at the length
pub rest : (s : List ℕ) (n : ℕ) → take (length s - n) (drop n s) ≡ drop n s
rest s n = take_all (length s - n) (drop n s) (simp length-drop (omega arith))

-- one field more, vs, behind the fields p: l becomes m
pub next : (m l p o ws vs : List ℕ) (n : ℕ) → m ≡ put l n ws → ws ≡ vs → l ≡ p ++ drop n o → length p ≡ n → n + length vs ≤ length o
    → m ≡ p ++ vs ++ drop (n + length vs) o
next m l p o ws vs n f g e k h =
    let q = p ++ drop n o in
    let long : n + length vs ≤ length q = simp (length-append, length-drop) (omega arith) in
    rw (f, g, e, le-leb (n + length vs) (length q) long, take_at p (drop n o) n k)
    (ap (λ (r : List ℕ). p ++ vs ++ r) (ap (λ (j : ℕ). drop (j + length vs) q) (sym k) ∙ drop-append-add p (drop n o) (length vs) ∙ drop-drop (length vs) n o))

-- a part from n on that was lent, and came back with t at its start, behind the n octets h
pub behind : (xs ys h t o : List ℕ) (n m : ℕ) → xs ≡ h ++ drop n o → length h ≡ n → ys ≡ t ++ drop m (take (length xs - n) (drop n xs))
    → take n xs ++ (ys ++ drop (length xs - n) (drop n xs)) ≡ h ++ t ++ drop (n + m) o
behind xs ys h t o n m e k g =
    let a = ap (take n) e ∙ take_at h (drop n o) n k in
    let b = ap (drop n) e ∙ drop_at h (drop n o) n k in
    let z = drop_of_length-le (drop n xs) {i = length xs - n} (simp length-drop (omega arith)) in
    rw (z, a, g, rest xs n, b, append-nil, drop-drop m n o) (sym (append_assoc h t (drop (n + m) o)))
