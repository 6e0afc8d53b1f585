-- `packed_of`: the key fits in 33 bits, and so the packed word in 64.
use Rattle.std.proofs.Common.{arith}
use Rattle.words.proofs.Fields.{key_low}
use Rattle.lent.proofs.packed.packed_of.Goals as goal

pub overflow_mul-result : goal.overflow_mul-result
overflow_mul-result c = omega (arith, c.key_of.ensures.0, key_low c.identity.result c.key_of.ensures.1)

pub overflow_add-result : goal.overflow_add-result
overflow_add-result c = omega (arith, c.key_of.ensures.0, key_low c.identity.result c.key_of.ensures.1)
