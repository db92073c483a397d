-- The field of 31 keeps a field's laws, shown by computing them at all codes.
use Rattle.std.proofs.Common.{arith}
use Rattle.field.specs.Coding.{Coded}
use Rattle.field.specs.Codes.{Field}
use Rattle.field.proofs.Tested.{field_by_test, every1, every2, every3}
use Rattle.gf31.specs.Modulo.{ops31, inv31, coding31}

field31 : Field 31 ops31 inv31
unfolding every1 every2 every3
field31 = field_by_test (record {
  nil_ok = tt;
  one_ok = tt;
  add_ok = tt;
  neg_ok = tt;
  mul_ok = tt;
  inv_ok = tt;
  add_assoc = tt;
  add_comm = tt;
  add_nil = tt;
  add_neg = tt;
  mul_assoc = tt;
  mul_comm = tt;
  mul_one = tt;
  mul_add = tt;
  mul_inv = tt;
})

pub coded31 : Coded coding31
coded31 = record { field = field31; some = omega arith; few = omega arith; fits = omega arith; codes = omega arith }
