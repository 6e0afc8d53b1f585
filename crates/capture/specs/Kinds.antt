-- The kind of a body, where the octets are one: what the first octet of `Layout` means.
use Rattle.std.specs.Prelude.{ℕ, cond, List, eqb, Option, Some, None}
use Rattle.capture.specs.declared.kinds.Kind.{Kind}
use Rattle.capture.specs.declared.kinds.Kind.TheVariants.{OneStep, TwoStep, Tick}
use Rattle.capture.specs.Layout.{body_kind, is_body}

-- by the number that a body starts with
abbrev pub kind_by : ℕ → Kind
kind_by n = cond (eqb n 3) Tick (cond (eqb n 1) OneStep TwoStep)

abbrev pub kind_of : List ℕ → Option Kind
kind_of b = cond (is_body b) (Some (kind_by (body_kind b))) None
