-- The laws of a field, proved by one test over all its codes.
use Rattle.std.proofs.Common.{◌≡◌, ℕ, zero, suc, ◌<◌, Bool, true, false, ◌&&◌, ◌||◌, T, eqb, ltb, subst, arith, eqb→eq, ltb→lt}
use native.Mathlib.Decide.{dec_lt}
use Rattle.field.specs.Ring.{Ops}
use Rattle.field.specs.Codes.{Field}

-- p at every number below n
abbrev pub every : ℕ → (ℕ → Bool) → Bool
every zero p = true
every (suc n) p = p n && every n p

and_l : (a b : Bool) → T (a && b) → T a
and_l true b t = tt
and_l false b t = t

and_r : (a b : Bool) → T (a && b) → T b
and_r true b t = t
and_r false b t = absurd t

pub every_at : (n : ℕ) (p : ℕ → Bool) → T (every n p) → (k : ℕ) → k < n → T (p k)
every_at zero p t k l = absurd (omega arith)
every_at (suc n) p t k l =
    elim (dec_lt k n) [ yes h ↦ every_at n p (and_r (p n) (every n p) t) k h | no h ↦ (let e : n ≡ k = omega arith in subst (λ j. T (p j)) e (and_l (p n) (every n p) t)) ]

unfoldable pub every2 : ℕ → (ℕ → ℕ → Bool) → Bool
every2 n p = every n (λ a. every n (p a))

unfoldable pub every3 : ℕ → (ℕ → ℕ → ℕ → Bool) → Bool
every3 n p = every n (λ a. every n (λ b. every n (p a b)))

at2 : (n : ℕ) (p : ℕ → ℕ → Bool) → T (every2 n p) → (a b : ℕ) → a < n → b < n → T (p a b)
unfolding every2
at2 n p t a b k l = every_at n (p a) (every_at n (λ a. every n (p a)) t a k) b l

at3 : (n : ℕ) (p : ℕ → ℕ → ℕ → Bool) → T (every3 n p) → (a b c : ℕ) → a < n → b < n → c < n → T (p a b c)
unfolding every3
at3 n p t a b c k l m = every_at n (p a b) (every_at n (λ b. every n (p a b)) (every_at n (λ a. every n (λ b. every n (p a b))) t a k) b l) c m

or_r : (a b : Bool) → T (a || b) → (T a → ⊥) → T b
or_r true b t h = absurd (h tt)
or_r false b t h = t

unfoldable pub every1 : ℕ → (ℕ → Bool) → Bool
every1 n p = every n p

at1 : (n : ℕ) (p : ℕ → Bool) → T (every1 n p) → (k : ℕ) → k < n → T (p k)
unfolding every1
at1 = every_at

-- each law of Field, as a test over all codes
pub record Passes (q : ℕ) (o : Ops ℕ) (inv : ℕ → ℕ) : Type 0 where
  pub nil_ok : T (ltb o.nil q)
  pub one_ok : T (ltb o.one q)
  pub add_ok : T (every2 q (λ a b. ltb (o.add a b) q))
  pub neg_ok : T (every1 q (λ a. ltb (o.neg a) q))
  pub mul_ok : T (every2 q (λ a b. ltb (o.mul a b) q))
  pub inv_ok : T (every1 q (λ a. ltb (inv a) q))
  pub add_assoc : T (every3 q (λ a b c. eqb (o.add (o.add a b) c) (o.add a (o.add b c))))
  pub add_comm : T (every2 q (λ a b. eqb (o.add a b) (o.add b a)))
  pub add_nil : T (every1 q (λ a. eqb (o.add a o.nil) a))
  pub add_neg : T (every1 q (λ a. eqb (o.add a (o.neg a)) o.nil))
  pub mul_assoc : T (every3 q (λ a b c. eqb (o.mul (o.mul a b) c) (o.mul a (o.mul b c))))
  pub mul_comm : T (every2 q (λ a b. eqb (o.mul a b) (o.mul b a)))
  pub mul_one : T (every1 q (λ a. eqb (o.mul a o.one) a))
  pub mul_add : T (every3 q (λ a b c. eqb (o.mul a (o.add b c)) (o.add (o.mul a b) (o.mul a c))))
  pub mul_inv : T (every1 q (λ a. eqb a o.nil || eqb (o.mul (inv a) a) o.one))

pub field_by_test : {q : ℕ} {o : Ops ℕ} {inv : ℕ → ℕ} → Passes q o inv → Field q o inv
field_by_test p = record {
  nil_ok = ltb→lt _ _ p.nil_ok;
  one_ok = ltb→lt _ _ p.one_ok;
  add_ok = λ a b l m. ltb→lt _ _ (at2 _ _ p.add_ok a b l m);
  neg_ok = λ a l. ltb→lt _ _ (at1 _ _ p.neg_ok a l);
  mul_ok = λ a b l m. ltb→lt _ _ (at2 _ _ p.mul_ok a b l m);
  inv_ok = λ a l. ltb→lt _ _ (at1 _ _ p.inv_ok a l);
  add_assoc = λ a b c l m n. eqb→eq _ _ (at3 _ _ p.add_assoc a b c l m n);
  add_comm = λ a b l m. eqb→eq _ _ (at2 _ _ p.add_comm a b l m);
  add_nil = λ a l. eqb→eq _ _ (at1 _ _ p.add_nil a l);
  add_neg = λ a l. eqb→eq _ _ (at1 _ _ p.add_neg a l);
  mul_assoc = λ a b c l m n. eqb→eq _ _ (at3 _ _ p.mul_assoc a b c l m n);
  mul_comm = λ a b l m. eqb→eq _ _ (at2 _ _ p.mul_comm a b l m);
  mul_one = λ a l. eqb→eq _ _ (at1 _ _ p.mul_one a l);
  mul_add = λ a b c l m n. eqb→eq _ _ (at3 _ _ p.mul_add a b c l m n);
  mul_inv = λ a l ne. eqb→eq _ _ (or_r _ _ (at1 _ _ p.mul_inv a l) (λ e. ne (eqb→eq _ _ e)));
}
