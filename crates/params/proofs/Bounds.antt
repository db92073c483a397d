-- The bounds of a set that is accepted.
use Rattle.std.proofs.Common.{◌≡◌, ℕ, ◌+◌, ◌*◌, ◌/◌, ◌≤◌, true, ◌&&◌, leb, arith}
use Rattle.std.proofs.lemmas.Nat.{mul-le}
use Rattle.std.proofs.lemmas.Bool.{leb-true, and_parts}
use Rattle.params.specs.declared.Set.{Set}
use Rattle.params.specs.Sets.{good}

pub record Bounds (s : Set) : Type 0 where
  pub some_n : 1 ≤ s.n
  pub few_n : s.n ≤ 64
  pub some_m : 1 ≤ s.m
  pub few_m : s.m ≤ 64
  pub some_r : 1 ≤ s.r
  pub few_r : s.r ≤ 269

pub bounds : (s : Set) → good s ≡ true → Bounds s
bounds s e =
    let f = and_parts (leb 1 s.n && leb s.n 64 && leb 1 s.m && leb s.m 64 && leb 1 s.r) (leb s.r 269) e in
    let d = and_parts (leb 1 s.n && leb s.n 64 && leb 1 s.m && leb s.m 64) (leb 1 s.r) f.0 in
    let c = and_parts (leb 1 s.n && leb s.n 64 && leb 1 s.m) (leb s.m 64) d.0 in
    let b = and_parts (leb 1 s.n && leb s.n 64) (leb 1 s.m) c.0 in
    let a = and_parts (leb 1 s.n) (leb s.n 64) b.0 in
    record {
      some_n = leb-true _ _ a.0;
      few_n = leb-true _ _ a.1;
      some_m = leb-true _ _ b.1;
      few_m = leb-true _ _ c.1;
      some_r = leb-true _ _ d.1;
      few_r = leb-true _ _ f.1;
    }

pub pairs_few : (n : ℕ) → n ≤ 64 → n * (n + 1) ≤ 4160
pairs_few n h = mul-le n (n + 1) 64 65 h (omega arith)

pub terms_few : (n m : ℕ) → n ≤ 64 → m ≤ 64 → m * (n * (n + 1) / 2 + n) ≤ 137216
terms_few n m h l = mul-le m (n * (n + 1) / 2 + n) 64 2144 l (omega (arith, pairs_few n h))

pub rounds_few : (r w : ℕ) → r ≤ 269 → w ≤ 224 → r * w ≤ 60256
rounds_few r w h l = mul-le r w 269 224 h l
