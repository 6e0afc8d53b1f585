-- The layout of a capture (document 02, W-209): "A capture, at most 65,536 octets, begins with its contents, a two-octet count up to 256 and
-- that many four-octet offsets from the capture's start; the bodies follow back to back to its end."
use Rattle.std.specs.Prelude.{ℕ, zero, suc, ◌+◌, ◌*◌, ◌-◌, Bool, true, cond, ◌&&◌, ◌||◌, List, [], ◌∷◌, ltb, leb, eqb, length, take, drop}
use Rattle.octets.specs.Octets.{number}

-- "a two-octet count": how many bodies a string of octets says it has
abbrev pub count_in : List ℕ → ℕ
count_in s = number 2 s 0

-- "that many four-octet offsets": where body k starts, as the contents say; behind the last one, the end
unfoldable pub start_of : List ℕ → ℕ → ℕ
start_of s k = cond (ltb k (count_in s)) (number 4 s (2 + 4 * k)) (length s)

-- "the bodies follow back to back to its end": a body goes to where the next one starts, the last one to the end
unfoldable pub body_at : List ℕ → ℕ → List ℕ
body_at s k = take (start_of s (k + 1) - start_of s k) (drop (start_of s k) s)

-- m bodies from number k on, and all of them
abbrev pub bodies_from : List ℕ → ℕ → ℕ → List (List ℕ)
bodies_from s k zero = []
bodies_from s k (suc m) = body_at s k ∷ bodies_from s (k + 1) m

abbrev pub bodies_in : List ℕ → List (List ℕ)
bodies_in s = bodies_from s 0 (count_in s)

-- "A body starts with 1 (one-step), 2 (two-step) or 3 (tick, one octet in all); 1 and 2 go on with entry stamp, exit stamp (8 octets each,
-- ..) and message, perhaps empty."
abbrev pub body_kind : List ℕ → ℕ
body_kind b = number 1 b 0

unfoldable pub is_body : List ℕ → Bool
is_body b = cond (eqb (body_kind b) 3) (eqb (length b) 1) (leb 17 (length b) && (eqb (body_kind b) 1 || eqb (body_kind b) 2))

abbrev pub are_bodies : List (List ℕ) → Bool
are_bodies [] = true
are_bodies (b ∷ bs) = is_body b && are_bodies bs

-- the first body, or the end where there is none, stands right behind the contents
abbrev pub starts_right : List ℕ → Bool
starts_right s = eqb (start_of s 0) (2 + 4 * count_in s)

-- No body is empty, so that each offset is above the one before and below the size, also where it says near 2^32: there is no gap, no overlap,
-- and no octet that belongs to no body (`Exactly`).
abbrev pub is_capture : List ℕ → Bool
is_capture s = leb (length s) 65536 && (leb (count_in s) 256 && (starts_right s && are_bodies (bodies_in s)))
