-- Numbers and their octets, over the width: what is written is read back, at any place, and what is read is written as it was; and a
-- part is read as the whole is.
-- Assumes nothing.
use Prim.Native.Nat.{ℕ, zero, suc, ◌+◌, ◌*◌, ◌/◌, ◌%◌, ◌^◌, ◌<◌, ◌≤◌}
use mathlib.Core.Path.{◌≡◌, refl, sym, ap, ◌∙◌}
use mathlib.Core.List.{List, [], ◌∷◌, ◌++◌, append_assoc}
use native.Mathlib.Nat.{pow-suc, add_assoc}
use native.Mathlib.Omega.{arith}
use lib.ListN.{length, get_or, take, drop, length-append, length-drop}
use lib.Seq.{get_or_at, get_or-take, get_or-drop, take-suc}
use Rattle.octets.specs.Octets.{Octets, number, octets}

pub length-octets : (w x : ℕ) → length (octets w x) ≡ w
length-octets zero x = refl
length-octets (suc w) x =
    length-append (octets w (x / 256)) (x % 256 ∷ []) ∙ omega (arith, length-octets w (x / 256))

-- the number behind the octets p is the one that was written there
pub number-octets : (w x i : ℕ) (p q : List ℕ) → length p ≡ i → x < 256 ^ w → number w (p ++ octets w x ++ q) i ≡ x
number-octets zero x i p q e h = omega arith
number-octets (suc w) x i p q e h =
    let b = x % 256 in
    let o = octets w (x / 256) in
    let l = p ++ (o ++ (b ∷ [])) ++ q in
    let small : x / 256 < 256 ^ w = omega (arith, pow-suc 256 w) in
    let front : l ≡ p ++ o ++ (b ∷ q) = simp append_assoc in
    let long : length (p ++ o) ≡ i + w = length-append p o ∙ omega (arith, length-octets w (x / 256)) in
    let high : number w l i ≡ x / 256 = ap (λ (m : List ℕ). number w m i) front ∙ number-octets w (x / 256) i p (b ∷ q) e small in
    let low : get_or l (i + w) 0 ≡ b = ap (λ (m : List ℕ). get_or m (i + w) 0) front ∙ get_or_at (p ++ o) b q 0 (i + w) long in
    omega arith

-- a number of the part from n on
pub number-drop : (w n i : ℕ) (s : List ℕ) → number w (drop n s) i ≡ number w s (n + i)
number-drop zero n i s = refl
number-drop (suc w) n i s = rw (number-drop w n i s, get_or-drop n s (i + w) 0, add_assoc)

-- and of the first n octets
pub number-take : (w n i : ℕ) (s : List ℕ) → i + w ≤ n → number w (take n s) i ≡ number w s i
number-take zero n i s h = refl
number-take (suc w) n i s h = rw (number-take w n i s (omega arith), get_or-take n s (i + w) 0 (omega arith))

-- the octets of a number that was read are those it was read from
pub octets-number : (s : List ℕ) → Octets s → (w i : ℕ) → i + w ≤ length s → octets w (number w s i) ≡ take w (drop i s)
octets-number s low zero i h = refl
octets-number s low (suc w) i h =
    let x = number w s i in
    let b = get_or s (i + w) 0 in
    let l = low (i + w) in
    let high : (x * 256 + b) / 256 ≡ x = omega arith in
    let last : (x * 256 + b) % 256 ≡ b = omega arith in
    rw (high, last, octets-number s low w i (omega arith))
    (ap (λ (y : ℕ). take w (drop i s) ++ (y ∷ [])) (sym (get_or-drop i s w 0))
    ∙ sym (take-suc (drop i s) w 0 (omega (arith, length-drop i s))))
