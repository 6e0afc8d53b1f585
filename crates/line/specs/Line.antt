-- The line that the program prints of a message (document 01, Numbers to check against: "The program reads ..").
use Rattle.std.specs.Prelude.{ℕ, zero, suc, ◌/◌, cond, List, [], ◌∷◌, ◌++◌, ltb, ℤ, pos, negsuc, length}
use Rattle.io.specs.Digits.{last_digits}
use Rattle.refusal.specs.Answer.{Answer, value, refused}
use Rattle.message.specs.declared.fields.Header.{Header}
use Rattle.message.specs.declared.fields.SubTlv.{SubTlv}
use Rattle.message.specs.declared.fields.Message.{Message}
use Rattle.message.specs.declared.fields.Message.TheVariants.{Plain, Ptp}
use Rattle.message.specs.Read.{read_of, carried_of}

-- how many decimal digits a number has, of k at most and one at least
abbrev pub places : ℕ → ℕ → ℕ
places zero n = 1
places (suc k) n = cond (ltb n 10) 1 (suc (places k (n / 10)))

-- a number in decimal, with no zeros in front; of 64 bits it has 20 digits at most
abbrev pub decimal : ℕ → List ℕ
decimal n = last_digits 10 (places 19 n) n

-- and a signed number, "-" before one below 0
abbrev pub signed_decimal : ℤ → List ℕ
signed_decimal (pos n) = decimal n
signed_decimal (negsuc n) = 45 ∷ decimal (suc n)

-- "type "
abbrev pub type_word : List ℕ
type_word = 116 ∷ 121 ∷ 112 ∷ 101 ∷ 32 ∷ []

-- " pad "
abbrev pub pad_word : List ℕ
pad_word = 32 ∷ 112 ∷ 97 ∷ 100 ∷ 32 ∷ []

-- " s "
abbrev pub s_word : List ℕ
s_word = 32 ∷ 115 ∷ 32 ∷ []

-- " kind "
abbrev pub kind_word : List ℕ
kind_word = 32 ∷ 107 ∷ 105 ∷ 110 ∷ 100 ∷ 32 ∷ []

-- " seq "
abbrev pub seq_word : List ℕ
seq_word = 32 ∷ 115 ∷ 101 ∷ 113 ∷ 32 ∷ []

-- " carried "
abbrev pub carried_word : List ℕ
carried_word = 32 ∷ 99 ∷ 97 ∷ 114 ∷ 114 ∷ 105 ∷ 101 ∷ 100 ∷ 32 ∷ []

-- " s - kind - seq -"
abbrev pub none_word : List ℕ
none_word = 32 ∷ 115 ∷ 32 ∷ 45 ∷ 32 ∷ 107 ∷ 105 ∷ 110 ∷ 100 ∷ 32 ∷ 45 ∷ 32 ∷ 115 ∷ 101 ∷ 113 ∷ 32 ∷ 45 ∷ []

-- "refused "
abbrev pub refused_word : List ℕ
refused_word = 114 ∷ 101 ∷ 102 ∷ 117 ∷ 115 ∷ 101 ∷ 100 ∷ 32 ∷ []

-- "\n"
abbrev pub newline : List ℕ
newline = 10 ∷ []

-- Type and pad
abbrev pub header_words : Header → List ℕ
header_words h = type_word ++ decimal h.message_type ++ pad_word ++ signed_decimal h.pad

-- S, PTPType and sequence
abbrev pub sub_tlv_words : SubTlv → List ℕ
sub_tlv_words t =
    s_word ++ cond t.two_step (decimal 1) (decimal 0) ++ kind_word ++ decimal t.ptp_type ++ seq_word ++ decimal t.sequence

-- the carried packet's size
abbrev pub carried_words : ℕ → List ℕ
carried_words n = carried_word ++ decimal n ++ newline

-- "one line and a newline: `refused` and the number, or Type, pad, S, PTPType, sequence and the carried packet's size in
-- decimal"; "For types 1 and 5 the fields s, kind and seq show `-`."
abbrev pub line_by : ℕ → Answer Message → List ℕ
line_by size (value (Plain h)) = header_words h ++ none_word ++ carried_words size
line_by size (value (Ptp h t)) = header_words h ++ sub_tlv_words t ++ carried_words size
line_by size (refused n) = refused_word ++ decimal n ++ newline

abbrev pub line_of : List ℕ → List ℕ
line_of s = line_by (length (carried_of s)) (read_of s)
