-- The quadratic map F and its polar form G over any ring, by the entries of their vectors. Assumes nothing.
use Rattle.std.specs.Prelude.{ℕ, zero, suc, ◌+◌, ◌-◌, ◌*◌, ◌/◌, List, map, slice_index_or}
use Rattle.std.specs.List.{range_with_len}
use Rattle.field.specs.Ring.{Ops, sub}

-- f(0) + .. + f(n - 1)
unfoldable pub sum_to : {A : Type 0} → Ops A → ℕ → (ℕ → A) → A
sum_to o zero f = o.nil
sum_to o (suc n) f = o.add (sum_to o n f) (f n)

-- where the coefficients a(i,i), a(i,i+1), .. of row i begin, in n variables
unfoldable pub row : ℕ → ℕ → ℕ
row n zero = 0
row n (suc i) = row n i + (n - i)

-- how many coefficients an equation has: one for each pair of variables, and b(0), .., b(n - 1)
abbrev pub size : ℕ → ℕ
size n = n * (n + 1) / 2 + n

-- an equation with the coefficients c: the sum of a(i,j)·x(i)·x(j), j from i upward, and of b(i)·x(i)
unfoldable pub eqn : {A : Type 0} → Ops A → ℕ → (ℕ → A) → (ℕ → A) → A
eqn o n c x =
    o.add
    (sum_to o n (λ i. sum_to o (n - i) (λ d. o.mul (c (row n i + d)) (o.mul (x i) (x (i + d))))))
    (sum_to o n (λ i. o.mul (c (row n n + i)) (x i)))

module _ {A : Type 0} (o : Ops A) where
  abbrev pub at : List A → ℕ → A
  at xs k = slice_index_or xs k o.nil

  -- the list f(0), .., f(n - 1)
  abbrev pub tab : ℕ → (ℕ → A) → List A
  tab n f = map f (range_with_len 0 n)

  -- x + y, x - y and a·x, entry by entry, of vectors with n entries
  unfoldable pub vadd : ℕ → List A → List A → List A
  vadd n x y = tab n (λ k. o.add (at x k) (at y k))

  unfoldable pub vsub : ℕ → List A → List A → List A
  vsub n x y = tab n (λ k. sub o (at x k) (at y k))

  unfoldable pub scale : ℕ → A → List A → List A
  scale n a x = tab n (λ k. o.mul a (at x k))

  -- m equations in n variables, whose coefficients cs stand equation by equation
  unfoldable pub F : ℕ → ℕ → List A → List A → List A
  F m n cs x = tab m (λ e. eqn o n (λ k. at cs (e * size n + k)) (at x))

  -- G(x, y) = F(x + y) - F(x) - F(y)
  unfoldable pub G : ℕ → ℕ → List A → List A → List A → List A
  G m n cs x y = vsub m (vsub m (F m n cs (vadd n x y)) (F m n cs x)) (F m n cs y)
