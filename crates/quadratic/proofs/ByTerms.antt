-- The sums over monomials are the map, and the sums over cross terms its polar form.
use Rattle.std.proofs.Common.{◌≡◌, ℕ, ◌+◌, ◌-◌, ◌*◌, ◌<◌, ◌≤◌, List, map, length, take, drop, sym, ap, ◌∙◌, ap₂, subst, add-mul, arith, length-drop}
use mathlib.Core.Path.{fun_ext}
use native.Mathlib.Nat.{sub-zero}
use Rattle.std.proofs.lemmas.Nat.{mul-le}
use Rattle.std.proofs.lemmas.List.{get_or-drop}
use Rattle.field.specs.Ring.{Ops}
use Rattle.field.specs.Codes.{Field, Codes}
use Rattle.field.specs.Terms.{monomials, crosses}
use Rattle.algebra.specs.Quad.{row, size, eqn, at, F, G}
use Rattle.algebra.proofs.Sizes.{size_rows}
use Rattle.algebra.proofs.Vectors.{tab_cong, tab_at, G_length}
use Rattle.quadratic.specs.Sums.{sums}
use Rattle.quadratic.proofs.Rows.{dot_eqn_codes}
use Rattle.quadratic.proofs.Crosses.{cross_entry}

drop_codes : (q : ℕ) (cs : List ℕ) (a : ℕ) → Codes q cs → Codes q (drop a cs)
drop_codes q cs a h k l = rw (get_or-drop a cs k 0) (h (a + k) (omega (arith, length-drop a cs)))

-- an equation's coefficients and those behind them
room : (m n e : ℕ) (cs : List ℕ) → e < m → length cs ≡ m * size n → row n n + n ≤ length (drop (e * size n) cs)
room m n e cs l long =
    omega (arith, size_rows n, length-drop (e * size n) cs, add-mul e 1 (size n), mul-le (e + 1) (size n) m (size n) (omega arith) (omega arith))

-- `m` equations in `n` variables, of which the code knows how many places and entries there are
module _ {q : ℕ} {o : Ops ℕ} {inv : ℕ → ℕ} (K : Field q o inv) where
  pub map_by_sums : (places m n : ℕ) (cs x : List ℕ) → places ≡ m → length x ≡ n → length cs ≡ m * size n → Codes q cs → Codes q x
      → sums o places cs (size n) (monomials o.mul x) ≡ F o m n cs x
  unfolding F
  map_by_sums places m n cs x p e long hc hx =
      ap (λ (k : ℕ). sums o k cs (size n) (monomials o.mul x)) p
      ∙ subst (λ (n : ℕ). length cs ≡ m * size n → sums o m cs (size n) (monomials o.mul x) ≡ F o m n cs x) e
      (λ long. tab_cong o m _ _ (λ e l.
      let n : ℕ = length x in
      dot_eqn_codes K (drop (e * size n) cs) x (room m n e cs l long) (drop_codes q cs (e * size n) hc) hx
      ∙ ap (λ (c : ℕ → ℕ). eqn o n c (at o x)) (fun_ext (λ k. get_or-drop (e * size n) cs k o.nil)))) long

  pub polar_by_sums : (places m n : ℕ) (cs x y : List ℕ) → places ≡ m → length x ≡ n → length y ≡ n → length cs ≡ m * size n → Codes q cs → Codes q x → Codes q y
      → sums o places cs (size n) (crosses o x y) ≡ G o m n cs x y
  polar_by_sums places m n cs x y p e f long hc hx hy =
      let same : length y ≡ length x = f ∙ sym e in
      ap (λ (k : ℕ). sums o k cs (size n) (crosses o x y)) p
      ∙ subst (λ (n : ℕ). length cs ≡ m * size n → sums o m cs (size n) (crosses o x y) ≡ G o m n cs x y) e
      (λ long. tab_cong o m _ (at o (G o m (length x) cs x y)) (λ e l. cross_entry K m e cs x y l same (omega (arith, room m (length x) e cs l long)) hc hx hy)
      ∙ tab_at o m (G o m (length x) cs x y) (G_length o m (length x) cs x y)) long

-- the same sums, of what the code has
pub sums_of_lem : (o : Ops ℕ) (m : ℕ) (cs : List ℕ) (step step' : ℕ) (stands : ℕ → ℕ) (ts all : List ℕ) (l : ℕ) → step ≡ step' → map stands (take l ts) ≡ all
    → sums o m cs step (map stands (take (l - 0) ts)) ≡ sums o m cs step' all
sums_of_lem o m cs step step' stands ts all l e f = ap₂ (sums o m cs) e (ap (λ (k : ℕ). map stands (take k ts)) (sub-zero l) ∙ f)
