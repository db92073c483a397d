-- What an equation adds up: the products of the entries of a vector or of two, and sums of products. Assumes nothing.
use Rattle.std.specs.Prelude.{List, [], ◌∷◌, ◌++◌, map}
use Rattle.field.specs.Ring.{Ops}

-- the sum of the products, place by place, up to the end of the shorter list
abbrev pub dot : {A : Type 0} → Ops A → List A → List A → A
dot o [] ys = o.nil
dot o (c ∷ cs) [] = o.nil
dot o (c ∷ cs) (y ∷ ys) = o.add (o.mul c y) (dot o cs ys)

-- x(i)·x(j) for i from 0 and j from i upward, by the product `mul`
abbrev pub pairs : {A : Type 0} → (A → A → A) → List A → List A
pairs mul [] = []
pairs mul (x ∷ xs) = map (mul x) (x ∷ xs) ++ pairs mul xs

-- and then x(i)
abbrev pub monomials : {A : Type 0} → (A → A → A) → List A → List A
monomials mul x = pairs mul x ++ x

-- a·v(j) + b·u(j) for every j
abbrev pub crossed : {A : Type 0} → Ops A → A → A → List A → List A → List A
crossed o a b [] vs = []
crossed o a b (u ∷ us) [] = []
crossed o a b (u ∷ us) (v ∷ vs) = o.add (o.mul a v) (o.mul b u) ∷ crossed o a b us vs

-- x(i)·y(j) + y(i)·x(j) for i from 0 and j from i upward; at j = i this is twice x(i)·y(i)
abbrev pub crosses : {A : Type 0} → Ops A → List A → List A → List A
crosses o [] ys = []
crosses o (x ∷ xs) [] = []
crosses o (x ∷ xs) (y ∷ ys) = crossed o x y (x ∷ xs) (y ∷ ys) ++ crosses o xs ys
