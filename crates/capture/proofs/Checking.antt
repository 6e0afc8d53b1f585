-- The bodies of a capture, at most 256, in turn: while those before number k are bodies, the octets are a capture where the others are too.
-- Assumes nothing.
use Prim.Native.Nat.{ℕ, suc, ◌+◌, ◌*◌, ◌-◌, ◌<◌, ◌≤◌}
use mathlib.Core.Path.{◌≡◌, refl}
use mathlib.Core.Logic.{◌≢◌}
use mathlib.Core.Bool.{Bool, true, false, and-eq-true_iff, ◌&&◌}
use mathlib.Core.List.{List, []}
use native.Mathlib.Omega.{arith}
use borrow.Author.Tests.{le-ltb, le-leb, leb-true, ne_eqb}
use lib.Dec.{leb}
use lib.ListN.{length}
use lib.Seq.{drop-length, take-nil}
use Rattle.std.specs.Prelude.{cond, Some, None}
use Rattle.std.specs.Option.{is_some}
use Rattle.capture.specs.Kinds.{kind_by, kind_of}
use Rattle.capture.specs.Layout.{count_in, start_of, body_at, bodies_from, bodies_in, body_kind, is_body, are_bodies, starts_right, is_capture}

-- behind the last body there is nothing
pub start_behind : (s : List ℕ) (k : ℕ) → count_in s ≤ k → start_of s k ≡ length s
unfolding start_of
start_behind s k h = rw (le-ltb k (count_in s) h) refl

pub none_behind : (s : List ℕ) (k : ℕ) → count_in s ≤ k → body_at s k ≡ []
unfolding body_at
none_behind s k h = rw (start_behind s k h, drop-length s) (take-nil (start_of s (k + 1) - length s))

-- octets that have a kind are a body
pub kind_told : (b : List ℕ) → is_some (kind_of b) ≡ true → is_body b ≡ true
kind_told b = go (is_body b)
  where
    go : (t : Bool) → is_some (cond t (Some (kind_by (body_kind b))) None) ≡ true → t ≡ true
    go true h = refl
    go false h = h

-- a capture has at most 256 bodies
pub few_bodies : (s : List ℕ) → is_capture s ≡ true → count_in s ≤ 256
few_bodies s h =
    let few = leb (count_in s) 256 in
    let rest = starts_right s && are_bodies (bodies_in s) in
    leb-true (count_in s) 256 ((and-eq-true_iff few rest).0 ((and-eq-true_iff (leb (length s) 65536) (few && rest)).0 h).1).0

-- octets whose first body does not stand right behind the contents are no capture
module _ (s : List ℕ) (n : ℕ) (told : n ≡ count_in s) (small : length s ≤ 65536) (few : n ≤ 256) where
  pub starts_elsewhere : start_of s 0 ≢ 2 + 4 * n → false ≡ is_capture s
  starts_elsewhere d = rw (le-leb (length s) 65536 small, ← told, le-leb n 256 few, ne_eqb (start_of s 0) (2 + 4 * n) d) refl

abbrev pub Checked : List ℕ → ℕ → ℕ → Type 0
Checked s n k = (k ≤ n) × (is_capture s ≡ are_bodies (bodies_from s k (n - k)))

module _ (s : List ℕ) (n k : ℕ) (c : Checked s n k) where
  check_next : k < n → is_capture s ≡ is_body (body_at s k) && are_bodies (bodies_from s (k + 1) (n - (k + 1)))
  check_next h =
      let one_more : n - k ≡ suc (n - (k + 1)) = omega arith in
      rw one_more at c.1

  pub check_on : k < n → is_body (body_at s k) ≡ true → Checked s n (k + 1)
  check_on h e = (omega arith, rw e at (check_next h))
