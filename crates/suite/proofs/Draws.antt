-- What was sifted out of the first bytes of a stream is what is drawn from it.
use Rattle.std.proofs.Common.{◌≡◌, ℕ, ◌<◌, ◌≤◌, Bool, true, false, leb, List, ◌++◌, length, take, Ok, Err, Result, sym, refl, ap, ◌∙◌, subst, arith}
use Rattle.std.proofs.lemmas.List.{length-take, take-append-le, take-take, length-take-le, get_or-take}
use Rattle.std.proofs.ByRecursion.{All-get_or}
use Rattle.std.proofs.lemmas.Bool.{le-leb, lt-leb, leb-true}
use Rattle.refusal.specs.declared.Refusal.{Refusal}
use Rattle.refusal.specs.declared.Refusal.TheVariants.{SuiteLimit, TooFewElements}
use Rattle.refusal.specs.Outcome.{told, written, and_then, unless}
use Rattle.field.specs.Codes.{Codes}
use Rattle.field.specs.Coding.{Coding, given, reads}
use Rattle.suite.specs.Meaning.{Meaning}
use Rattle.suite.specs.Calls.{first, stream_of}
use Rattle.suite.specs.Drawn.{candidates, drawn, draw_of, Holds, Elements, Draws}
use Rattle.suite.proofs.Sifts.{all_sifted}

take_codes : (q k : ℕ) (xs : List ℕ) → k ≤ length xs → Codes q xs → Codes q (take k xs)
take_codes q k xs h c i l =
    let w = length-take-le k xs h in
    let lt : i < k = omega arith in
    rw (get_or-take k xs i 0 lt) (c i (omega arith))

module _ (K : Coding) (M : Meaning) (label : ℕ) (seed : List ℕ) (n room : ℕ) where
  abbrev out : Result (List ℕ) Refusal
  out = draw_of K M label seed n room

  abbrev cs : List ℕ
  cs = candidates K M label seed n

  -- what the call answers, and what stands in front of the buffer
  pub record Drew (r : Result (Unit {0}) Refusal) (front : List ℕ) : Type 0 where
    pub answer : r ≡ told out
    pub holds : Holds out front
    pub law : Draws K M label seed n room r front

  -- with room, the stream decides
  in_room : reads n ≤ room → out ≡ and_then (unless (leb (reads n) 262144) (SuiteLimit label)) (λ _. drawn K M label seed n)
  in_room h = rw (le-leb (reads n) room h)

  pub limited : reads n ≤ room → reads n ≤ 262144 → out ≡ drawn K M label seed n
  limited h l = in_room h ∙ rw (le-leb (reads n) 262144 l)

  -- a stream that was written
  module _ (m : ℕ) (is : m ≡ reads n) (h : reads n ≤ room) (xs : List ℕ) (s : Ok tt ≡ told (stream_of M label seed m)) (w : xs ≡ written m (stream_of M label seed m)) where
    streamed : (reads n ≤ 262144) × (xs ≡ first (M.e label seed) (reads n))
    streamed = go (leb m 262144) refl s w
      where
        go : (b : Bool) → leb m 262144 ≡ b
            → ◌≡◌ {A = Result (Unit {0}) Refusal} (Ok tt) (told (and_then (unless b (SuiteLimit label)) (λ _. Ok (first (M.e label seed) m))))
            → xs ≡ written m (and_then (unless b (SuiteLimit label)) (λ _. Ok (first (M.e label seed) m)))
            → (reads n ≤ 262144) × (xs ≡ first (M.e label seed) (reads n))
        go true t g v = (omega (arith, leb-true m 262144 t), v ∙ ap (first (M.e label seed)) is)
        go false t g v =
            let z : ◌≡◌ {A = ℕ} 0 1 = cc in
            absurd (omega arith)

    abbrev given_by : List ℕ → List ℕ
    given_by bytes = given K bytes

    same : given_by xs ≡ cs
    same = ap given_by streamed.1

    pub short : (r : ℕ) (front : List ℕ) → r ≡ length (given_by xs) → r < n → Drew (Err (TooFewElements label)) front
    short r front c l =
        let few : length cs < n = omega (arith, ap length same) in
        let d : drawn K M label seed n ≡ Err (TooFewElements label) = rw (lt-leb n (length cs) few) in
        let o : out ≡ Err (TooFewElements label) = limited h streamed.0 ∙ d in
        record {
          answer = sym (ap told o);
          holds = subst (λ (d : Result (List ℕ) Refusal). Holds d front) (sym o) tt;
          law = record {
            elements = λ v. let z : ◌≡◌ {A = ℕ} 0 1 = cc in absurd (omega arith);
            enough = λ _ _ g. absurd (omega arith);
          };
        }

    pub done : (r : ℕ) (ys zs : List ℕ) → r ≡ length (given_by xs) → n ≤ r → take r ys ≡ given_by xs → Drew (Ok tt) (take n (ys ++ zs))
    done r ys zs c l f =
        let long : r ≤ length ys = omega (arith, length-take r ys, ap length f) in
        let most : n ≤ length ys = omega arith in
        let many : n ≤ length cs = omega (arith, ap length same) in
        let e : take n (ys ++ zs) ≡ take n cs = take-append-le n ys zs most ∙ sym (take-take n r ys l) ∙ ap (take n) (f ∙ same) in
        let d : drawn K M label seed n ≡ Ok (take n cs) = rw (le-leb n (length cs) many) in
        let o : out ≡ Ok (take n cs) = limited h streamed.0 ∙ d in
        let codes : Codes K.q cs = λ k g. All-get_or (λ x. x < K.q) cs k 0 g (all_sifted K.q K.bits (first (M.e label seed) (reads n))) in
        record {
          answer = sym (ap told o);
          holds = subst (λ (d : Result (List ℕ) Refusal). Holds d (take n (ys ++ zs))) (sym o) e;
          law = record {
            elements = λ _. subst (Elements K.q n) (sym e) (record { long = length-take-le n cs many; codes = take_codes K.q n cs many codes });
            enough = λ _ _ _. refl;
          };
        }
