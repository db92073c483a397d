-- The table of worked cases. Numbers with 0x are bytes.
use Rattle.std.specs.Prelude.{◌≡◌, ℕ, List, [], ◌∷◌, ◌++◌, replicate, Ok, Err}
use Rattle.refusal.specs.declared.Refusal.TheVariants.{Element, Pad, TooFewElements}
use Rattle.field.specs.Coding.{reads}
use Rattle.gf31.specs.Modulo.{coding31}
use Rattle.packing.specs.Packed.{pack_of, unpack_of}
use Rattle.params.specs.declared.Set.{Set}
use Rattle.params.specs.Sizes.{coefficients_of, key_length, signature_length}
use Rattle.suite.specs.Drawn.{drawn}
use Rattle.suite_bench.specs.Sums.{bench_meaning}
use Rattle.algebra.specs.Quad.{F}
use Rattle.keys.specs.Keys.{public_of}
use Rattle.scheme.specs.Signing.{sign_of, pool, α_of, bit_of_round, D}
use Rattle.scheme.specs.Verifying.{verify_of}

-- MQDSS-31-64
abbrev pub large : Set
large = record { n = 64; m = 64; r = 269 }

-- one variable, one equation, one round
abbrev pub small : Set
small = record { n = 1; m = 1; r = 1 }

-- the worked example: the bench suite, the set (1, 1, 1), K and S zeros, an empty message; its D and its signature
abbrev pub zeros : List ℕ
zeros = replicate 32 0

abbrev pub example_d : List ℕ
example_d = D coding31 bench_meaning small zeros zeros []

abbrev pub example : List ℕ
example =
    replicate 32 0x03
    ++ ((0x2B ∷ (0x39 ∷ (0x1B ∷ [])))
    ++ (replicate 29 0x03
    ++ ((0x18 ∷ (0x1C ∷ (0x10 ∷ [])))
    ++ ((0x18 ∷ (0x18 ∷ (0x18 ∷ [])))
    ++ replicate 29 0x00))))

pub record Cases : Type 0 where
  -- (1, 2) packs into 41 00
  pub pair : pack_of coding31.q coding31.bits (1 ∷ 2 ∷ []) 2 ≡ Ok (0x41 ∷ 0x00 ∷ [])
  -- one element: 1F is refused with 10, 27 with 11
  pub element : unpack_of coding31.q coding31.bits 1 (0x1F ∷ []) ≡ Err (Element 0)
  pub pad : unpack_of coding31.q coding31.bits 1 (0x27 ∷ []) ≡ Err (Pad 0)
  -- C, B(C), and the lengths of a public key and a signature
  pub coefficients : coefficients_of large ≡ 137216
  pub drawing : reads (coefficients_of large) ≡ 154432
  pub key : key_length coding31.bits large ≡ 72
  pub signature : signature_length coding31.bits large ≡ 40952
  -- label 8 and a seed of F7 in the bench suite give nothing but 31, so that no element can be drawn
  pub barren : drawn coding31 bench_meaning 8 (replicate 32 0xF7) 1 ≡ Err (TooFewElements 8)
  -- bench suite, set (1, 1, 1), K and S zeros: a = b = 8, s = 9, v = 7
  pub map : drawn coding31 bench_meaning 8 (replicate 32 0) (coefficients_of small) ≡ Ok (8 ∷ 8 ∷ [])
  pub secret : drawn coding31 bench_meaning 9 (replicate 32 0) 1 ≡ Ok (9 ∷ [])
  pub value : F coding31.ops 1 1 (8 ∷ 8 ∷ []) (9 ∷ []) ≡ 7 ∷ []
  pub public : public_of coding31 bench_meaning small (replicate 32 0) (replicate 32 0) ≡ Ok (replicate 32 0 ++ (0x07 ∷ []))
  -- its round: r0 = t0 = e0 = 24, α = 2, bit 1
  pub round : pool coding31 bench_meaning small zeros example_d 0 ≡ 24 ∷ (24 ∷ (24 ∷ []))
  pub challenge : α_of coding31 bench_meaning small (8 ∷ (8 ∷ [])) (9 ∷ []) zeros example_d 0 ≡ 2
  pub bit : bit_of_round coding31 bench_meaning small (8 ∷ (8 ∷ [])) (9 ∷ []) zeros example_d 0 ≡ 1
  -- signing gives the example, in the smallest buffers, and verification accepts it
  pub signed : sign_of coding31 bench_meaning small [] 66 64 1024 99 (replicate 64 0) ≡ Ok example
  pub accepted : verify_of coding31 bench_meaning small [] 66 64 (zeros ++ (0x07 ∷ [])) example ≡ Ok tt
