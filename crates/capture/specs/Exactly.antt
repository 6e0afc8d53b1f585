-- What a capture is, said from its bodies (document 02, W-209): "A capture, at most 65,536 octets, begins with its contents, a two-octet count
-- up to 256 and that many four-octet offsets from the capture's start; the bodies follow back to back to its end." So `Layout` takes no more
-- and no less, whatever the offsets say.
use Rattle.std.specs.Prelude.{ℕ, ◌+◌, ◌*◌, ◌≤◌, ◌≡◌, true, List, [], ◌∷◌, ◌++◌, length, drop, replicate}
use Rattle.image.specs.Layout.{fields_at}
use Rattle.capture.specs.Layout.{bodies_in, are_bodies, is_capture}

-- where bodies start that stand back to back from place p on, and their octets
abbrev pub starts : ℕ → List (List ℕ) → List ℕ
starts p [] = []
starts p (b ∷ bs) = p ∷ starts (p + length b) bs

abbrev pub together : List (List ℕ) → List ℕ
together [] = []
together (b ∷ bs) = b ++ together bs

-- where the first of n bodies starts, behind the contents
abbrev pub first_body : ℕ → ℕ
first_body n = 2 + 4 * n

-- the octets s are a capture of the bodies bs
pub record Holds (s : List ℕ) (bs : List (List ℕ)) : Type 0 where
  pub small : length s ≤ 65536
  pub few : length bs ≤ 256
  pub contents : fields_at (2 ∷ replicate (length bs) 4) s 0 ≡ length bs ∷ starts (first_body (length bs)) bs
  pub bodies : drop (first_body (length bs)) s ≡ together bs
  pub ends : length s ≡ first_body (length bs) + length (together bs)
  pub sound : are_bodies bs ≡ true

-- "26 for any other capture": what is taken is exactly that, and the bodies read are those that it holds
abbrev pub ExactlyCaptures : Type 0
ExactlyCaptures =
    (s : List ℕ)
    → (is_capture s ≡ true → Holds s (bodies_in s))
    × ((bs : List (List ℕ)) → Holds s bs → (is_capture s ≡ true) × (bodies_in s ≡ bs))
