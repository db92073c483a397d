-- A field by the codes of its elements, the numbers below q: one code for each element. Assumes nothing.
use Rattle.std.specs.Prelude.{◌≡◌, ℕ, ◌<◌, List, length, ◌≢◌, slice_index}
use Rattle.field.specs.Ring.{Ops}

-- a commutative ring with unit on the codes; `inv` is an inverse of every code but zero's
pub record Field (q : ℕ) (o : Ops ℕ) (inv : ℕ → ℕ) : Type 0 where
  pub nil_ok : o.nil < q
  pub one_ok : o.one < q
  pub add_ok : (a b : ℕ) → a < q → b < q → o.add a b < q
  pub neg_ok : (a : ℕ) → a < q → o.neg a < q
  pub mul_ok : (a b : ℕ) → a < q → b < q → o.mul a b < q
  pub inv_ok : (a : ℕ) → a < q → inv a < q
  pub add_assoc : (a b c : ℕ) → a < q → b < q → c < q → o.add (o.add a b) c ≡ o.add a (o.add b c)
  pub add_comm : (a b : ℕ) → a < q → b < q → o.add a b ≡ o.add b a
  pub add_nil : (a : ℕ) → a < q → o.add a o.nil ≡ a
  pub add_neg : (a : ℕ) → a < q → o.add a (o.neg a) ≡ o.nil
  pub mul_assoc : (a b c : ℕ) → a < q → b < q → c < q → o.mul (o.mul a b) c ≡ o.mul a (o.mul b c)
  pub mul_comm : (a b : ℕ) → a < q → b < q → o.mul a b ≡ o.mul b a
  pub mul_one : (a : ℕ) → a < q → o.mul a o.one ≡ a
  pub mul_add : (a b c : ℕ) → a < q → b < q → c < q → o.mul a (o.add b c) ≡ o.add (o.mul a b) (o.mul a c)
  pub mul_inv : (a : ℕ) → a < q → (a ≢ o.nil) → o.mul (inv a) a ≡ o.one

-- every entry is a code
abbrev pub Codes : ℕ → List ℕ → Type 0
Codes q xs = (k : ℕ) → k < length xs → slice_index xs k < q

-- a vector of n codes
pub record Vector (q n : ℕ) (xs : List ℕ) : Type 0 where
  pub long : length xs ≡ n
  pub codes : Codes q xs
