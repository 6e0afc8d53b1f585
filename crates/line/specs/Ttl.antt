-- The line that `show_ttl` prints of its input: the TTL for the next timing node and the two label entries (document 02, W-208).
use Rattle.std.specs.Prelude.{ℕ, ◌+◌, Bool, cond, ◌&&◌, List, [], ◌∷◌, ◌++◌, ltb, eqb, length, take, drop, replicate}
use Rattle.io.specs.Digits.{last_digits}
use Rattle.octets.specs.Octets.{number}
use Rattle.refusal.specs.Answer.{Answer, value, refused}
use Rattle.refusal.specs.Written.{Write}
use Rattle.label_stack.specs.Labels.{labels_of}
use Rattle.line.specs.Line.{decimal, refused_word, newline}

-- "ttl "
abbrev pub ttl_word : List ℕ
ttl_word = 116 ∷ 116 ∷ 108 ∷ 32 ∷ []

-- " "
abbrev pub space : List ℕ
space = 32 ∷ []

-- "malformed\n"
abbrev pub malformed_line : List ℕ
malformed_line = 109 ∷ 97 ∷ 108 ∷ 102 ∷ 111 ∷ 114 ∷ 109 ∷ 101 ∷ 100 ∷ 10 ∷ []

-- The input: position (8 octets), label (4), then the hops and the RTM_SET list, each behind its size (2). Where the size of the RTM_SET
-- list stands, and where the input ends
abbrev pub set_place : List ℕ → ℕ
set_place s = 14 + number 2 s 12

abbrev pub input_end : List ℕ → ℕ
input_end s = set_place s + 2 + number 2 s (set_place s)

-- it is laid out so, and has fewer than 65,536 octets
abbrev pub laid_out : List ℕ → Bool
laid_out s = ltb (length s) 65536 && eqb (length s) (input_end s)

-- the search and the label entries that it asks for
abbrev pub labels_in : List ℕ → Write
labels_in s = labels_of (take (number 2 s 12) (drop 14 s)) (drop (set_place s + 2) s) (number 8 s 0) (number 4 s 8) (replicate 8 0)

-- one line: `refused` and the number, or `ttl`, the TTL in decimal and the eight octets in hexadecimal
abbrev pub labels_line_by : List ℕ → Answer ℕ → List ℕ
labels_line_by out (value d) = ttl_word ++ decimal d ++ space ++ last_digits 16 16 (number 8 out 0) ++ newline
labels_line_by out (refused n) = refused_word ++ decimal n ++ newline

abbrev pub labels_line : Write → List ℕ
labels_line w = labels_line_by w.output w.answer

abbrev pub ttl_line_of : List ℕ → List ℕ
ttl_line_of s = cond (laid_out s) (labels_line (labels_in s)) malformed_line
