-- The line that `plan` prints of its input: the pads that a path would show (document 02, W-212).
use Rattle.std.specs.Prelude.{ℕ, cond, List, [], ◌∷◌, ◌++◌}
use Rattle.refusal.specs.Answer.{Answer, value, refused}
use Rattle.hops.specs.declared.End.{End}
use Rattle.planner.specs.File.{is_path, plan_in}
use Rattle.line.specs.Line.{signed_decimal, s_word, refused_word}
use Rattle.line.specs.Ttl.{malformed_line}
use Rattle.line.specs.Replaying.{dash, value_line}

-- "sync "
abbrev pub sync_word : List ℕ
sync_word = 115 ∷ 121 ∷ 110 ∷ 99 ∷ 32 ∷ []

-- " follow-up "
abbrev pub follow_up_word : List ℕ
follow_up_word = 32 ∷ 102 ∷ 111 ∷ 108 ∷ 108 ∷ 111 ∷ 119 ∷ 45 ∷ 117 ∷ 112 ∷ 32 ∷ []

-- the Follow_Up's pad, or "-" where there is no Follow_Up
abbrev pub follow_up_words : End → List ℕ
follow_up_words e = cond e.exists (signed_decimal e.follow_up_pad) dash

-- "sync P follow-up P s S"
abbrev pub end_line : End → List ℕ
end_line e = sync_word ++ signed_decimal e.sync_pad ++ follow_up_word ++ follow_up_words e ++ value_line s_word (cond e.two_step 1 0)

abbrev pub planned_line : Answer End → List ℕ
planned_line (value e) = end_line e
planned_line (refused n) = value_line refused_word n

-- what is laid out in another way is malformed
abbrev pub plan_line_of : List ℕ → List ℕ
plan_line_of s = cond (is_path s) (planned_line (plan_in s)) malformed_line
