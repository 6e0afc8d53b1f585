-- What is taken for a capture is exactly a string of octets that holds bodies back to back, behind contents that say where they start.
-- Assumes nothing.
use Prim.Native.Nat.{ℕ, zero, suc, ◌+◌, ◌*◌, ◌-◌, ◌<◌, ◌≤◌}
use mathlib.Core.Path.{◌≡◌, refl, sym, ap, ◌∙◌}
use mathlib.Core.Bool.{true, and-eq-true_iff, ◌&&◌}
use mathlib.Core.List.{List, [], ◌∷◌, ◌++◌}
use native.Mathlib.Omega.{arith}
use borrow.Author.Tests.{lt-ltb, le-leb, leb-true, eq-eqb, eqb-true}
use lib.Dec.{leb, eqb}
use lib.ListN.{length, get_or, take, drop, replicate, length-append, length-drop, take-append-drop}
use lib.Seq.{length-take-le, drop-length, drop-drop, take_at, drop_at}
use Rattle.octets.specs.Octets.{number}
use Rattle.image.specs.Layout.{fields_at}
use Rattle.capture.specs.Layout.{count_in, start_of, body_at, bodies_from, bodies_in, is_body, are_bodies, is_capture}
use Rattle.capture.specs.Exactly.{starts, together, first_body, Holds, ExactlyCaptures}
use Rattle.capture.proofs.Checking.{start_behind}

-- a body is not empty
some_octet : (b : List ℕ) → is_body b ≡ true → 1 ≤ length b
unfolding is_body
some_octet [] h = absurd (let z : ◌≡◌ {A = ℕ} 0 1 = cc in omega arith)
some_octet (x ∷ b) h = omega arith

part_some : (a : ℕ) (l : List ℕ) → 1 ≤ length (take a l) → (1 ≤ a) × (1 ≤ length l)
part_some zero l h = absurd (omega arith)
part_some (suc a) [] h = absurd (omega arith)
part_some (suc a) (x ∷ l) h = (omega arith, omega arith)

pub length_bodies : (s : List ℕ) (k m : ℕ) → length (bodies_from s k m) ≡ m
length_bodies s k zero = refl
length_bodies s k (suc m) = ap suc (length_bodies s (k + 1) m)

module _ (s : List ℕ) where
  -- where a body starts, as the contents say
  start_said : (k : ℕ) → k < count_in s → start_of s k ≡ number 4 s (2 + 4 * k)
  unfolding start_of
  start_said k h = rw (lt-ltb k (count_in s) h) refl

  -- a body that is not empty starts before the next one, and before the end
  starts_before : (k : ℕ) → is_body (body_at s k) ≡ true → (start_of s k < start_of s (k + 1)) × (start_of s k < length s)
  unfolding body_at
  starts_before k h =
      let p = part_some (start_of s (k + 1) - start_of s k) (drop (start_of s k) s) (some_octet (body_at s k) h) in
      let q = length-drop (start_of s k) s in
      (omega arith, omega arith)

  start_in : (k m : ℕ) → k + m ≡ count_in s → are_bodies (bodies_from s k m) ≡ true → start_of s k ≤ length s
  start_in k zero e h = let q = start_behind s k (omega arith) in omega arith
  start_in k (suc m) e h =
      omega (arith, (starts_before k ((and-eq-true_iff (is_body (body_at s k)) (are_bodies (bodies_from s (k + 1) m))).0 h).0).1)

  -- body k between two starts, and what follows it
  module _ (k : ℕ) (up : start_of s k ≤ start_of s (k + 1)) (within : start_of s (k + 1) ≤ length s) where
    body_length : length (body_at s k) ≡ start_of s (k + 1) - start_of s k
    unfolding body_at
    body_length =
        let q = length-drop (start_of s k) s in
        length-take-le (start_of s (k + 1) - start_of s k) (drop (start_of s k) s) (omega arith)

    body_next : drop (start_of s k) s ≡ body_at s k ++ drop (start_of s (k + 1)) s
    unfolding body_at
    body_next =
        let d = start_of s (k + 1) - start_of s k in
        let e : start_of s k + d ≡ start_of s (k + 1) = omega arith in
        sym (take-append-drop d (drop (start_of s k) s))
        ∙ ap (λ (l : List ℕ). take d (drop (start_of s k) s) ++ l) (drop-drop d (start_of s k) s ∙ ap (λ (i : ℕ). drop i s) e)

  -- m bodies from number k on hold the rest
  abbrev Rest : ℕ → ℕ → Type 0
  Rest k m =
      (drop (start_of s k) s ≡ together (bodies_from s k m))
      × (fields_at (replicate m 4) s (2 + 4 * k) ≡ starts (start_of s k) (bodies_from s k m))
      × (length s ≡ start_of s k + length (together (bodies_from s k m)))

  rest_held : (m k : ℕ) → k + m ≡ count_in s → are_bodies (bodies_from s k m) ≡ true → Rest k m
  rest_held zero k e h =
      let q = start_behind s k (omega arith) in
      (rw q (drop-length s), refl, omega arith)
  rest_held (suc m) k e h =
      let both = (and-eq-true_iff (is_body (body_at s k)) (are_bodies (bodies_from s (k + 1) m))).0 h in
      let before = starts_before k both.0 in
      let up : start_of s k ≤ start_of s (k + 1) = omega arith in
      let within = start_in (k + 1) m (omega arith) both.1 in
      let size = body_length k up within in
      let on = rest_held m (k + 1) (omega arith) both.1 in
      let said = start_said k (omega arith) in
      let place : 2 + 4 * k + 4 ≡ 2 + 4 * (k + 1) = omega arith in
      let next : start_of s k + length (body_at s k) ≡ start_of s (k + 1) = omega arith in
      let long = length-append (body_at s k) (together (bodies_from s (k + 1) m)) in (
        body_next k up within ∙ ap (λ (l : List ℕ). body_at s k ++ l) on.0,
        rw (place, next) (λ i. sym said i ∷ on.1 i),
        omega (arith, on.2),
      )

  -- and bodies that are held are the ones read
  read_held :
      (bs : List (List ℕ)) (k p : ℕ)
      → k + length bs ≡ count_in s
      → fields_at (replicate (length bs) 4) s (2 + 4 * k) ≡ starts p bs
      → drop p s ≡ together bs
      → length s ≡ p + length (together bs)
      → (start_of s k ≡ p) × (bodies_from s k (length bs) ≡ bs)
  unfolding body_at
  read_held [] k p e f d l = let q = start_behind s k (omega arith) in (omega arith, refl)
  read_held (b ∷ bs) k p e f d l =
      let place : 2 + 4 * k + 4 ≡ 2 + 4 * (k + 1) = omega arith in
      let here : start_of s k ≡ p = start_said k (omega arith) ∙ ap (λ (x : List ℕ). get_or x 0 0) f in
      let tail : fields_at (replicate (length bs) 4) s (2 + 4 * (k + 1)) ≡ starts (p + length b) bs = rw place at (ap (λ (x : List ℕ). drop 1 x) f) in
      let rest : drop (p + length b) s ≡ together bs =
      sym (drop-drop (length b) p s) ∙ ap (λ (x : List ℕ). drop (length b) x) d ∙ drop_at b (together bs) (length b) refl in
      let long = length-append b (together bs) in
      let on = read_held bs (k + 1) (p + length b) (omega arith) tail rest (omega arith) in
      let wide : start_of s (k + 1) - start_of s k ≡ length b = omega (arith, on.0) in
      let body : take (start_of s (k + 1) - start_of s k) (drop (start_of s k) s) ≡ b =
      rw (wide, here, d) (take_at b (together bs) (length b) refl) in
      (here, λ i. body i ∷ on.1 i)

  holds : is_capture s ≡ true → Holds s (bodies_in s)
  holds h =
      let n = count_in s in
      let right = eqb (start_of s 0) (2 + 4 * n) && are_bodies (bodies_in s) in
      let size = (and-eq-true_iff (leb (length s) 65536) (leb n 256 && right)).0 h in
      let many = (and-eq-true_iff (leb n 256) right).0 size.1 in
      let last = (and-eq-true_iff (eqb (start_of s 0) (2 + 4 * n)) (are_bodies (bodies_in s))).0 many.1 in
      let first = eqb-true (start_of s 0) (2 + 4 * n) last.0 in
      let rest = rest_held n 0 (omega arith) last.1 in
      let count = length_bodies s 0 n in
      record {
        small = leb-true (length s) 65536 size.0;
        few = omega (arith, leb-true n 256 many.0);
        contents = rw (count, ← first) (λ i. n ∷ rest.1 i);
        bodies = rw (count, ← first) rest.0;
        ends = rw (count, ← first) rest.2;
        sound = last.1;
      }

  held : (bs : List (List ℕ)) → Holds s bs → (is_capture s ≡ true) × (bodies_in s ≡ bs)
  held bs h =
      let count : count_in s ≡ length bs = ap (λ (x : List ℕ). get_or x 0 0) h.contents in
      let tail : fields_at (replicate (length bs) 4) s 2 ≡ starts (first_body (length bs)) bs = ap (λ (x : List ℕ). drop 1 x) h.contents in
      let on = read_held bs 0 (first_body (length bs)) (omega arith) tail h.bodies h.ends in
      let same : bodies_in s ≡ bs = ap (λ (m : ℕ). bodies_from s 0 m) count ∙ on.1 in
      let all : are_bodies (bodies_in s) ≡ true = ap are_bodies same ∙ h.sound in
      let first : start_of s 0 ≡ 2 + 4 * count_in s = on.0 ∙ ap (λ (m : ℕ). 2 + 4 * m) (sym count) in
      let right = eqb (start_of s 0) (2 + 4 * count_in s) && are_bodies (bodies_in s) in (
        (and-eq-true_iff (leb (length s) 65536) (leb (count_in s) 256 && right)).1 (
          le-leb (length s) 65536 h.small,
          (and-eq-true_iff (leb (count_in s) 256) right).1 (
            le-leb (count_in s) 256 (omega (arith, h.few)),
            (and-eq-true_iff (eqb (start_of s 0) (2 + 4 * count_in s)) (are_bodies (bodies_in s))).1 (eq-eqb (start_of s 0) (2 + 4 * count_in s) first, all),
          ),
        ),
        same,
      )

pub exactly_captures : ExactlyCaptures
exactly_captures s = (holds s, held s)
