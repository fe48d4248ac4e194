-- What several numbers stand for.
use Rattle.std.proofs.Common.{◌≡◌, ℕ, List, [], ◌∷◌, ◌++◌, map, refl, ap, sym, ◌∙◌, Ok, Err, Some, None, Vec, append_assoc}
use Rattle.std.specs.Prelude.{Result, option_map}
use Rattle.std.specs.declared.option.Option.{Option}
use Rattle.std.specs.declared.alloc.Global.{Global}
use Rattle.std.proofs.lemmas.List.{append-nil}
use Rattle.lk_lines.specs.declared.words.Word.{Word}
use Rattle.lk_lines.specs.declared.words.Word.TheVariants.{IndexUnknown}
use Rattle.lk_lines.specs.Reading.{◌>>=◌}
use Rattle.lk_units.specs.declared.numbering.Numbering.{Numbering}
use Rattle.lk_units.specs.declared.assembler.TakeError.{TakeError}
use Rattle.lk_units.specs.declared.assembler.TakeError.TheVariants as errors
use Rattle.lk_units.specs.Numbering.{entry}
use Rattle.lk_units.specs.State.{known, known_of, all_known}
use Rattle.lk_units.specs.Held.{Numbered, Makes}

abbrev behind : {X : Type 0} → List X → Result (List X) Word → Result (List X) Word
behind xs r = r >>= λ ys. Ok (xs ++ ys)

-- the places that were found, and behind them those of the rest, are those of all the numbers
pub record AreFound (places : ℕ → Option ℕ) (found rest numbers : List ℕ) : Type 0 where
  pub leads : behind found (all_known places rest) ≡ all_known places numbers

behind_none : {X : Type 0} (r : Result (List X) Word) → behind [] r ≡ r
behind_none (Ok xs) = refl
behind_none (Err w) = refl

pub found_begin : (places : ℕ → Option ℕ) (numbers : List ℕ) → AreFound places [] numbers numbers
found_begin places numbers = record { leads = behind_none (all_known places numbers) }

one_more : {X : Type 0} (done : List X) (x : X) (r : Result (List X) Word) → behind (done ++ x ∷ []) r ≡ behind done (r >>= λ xs. Ok (x ∷ xs))
one_more done x (Ok xs) = ap Ok (append_assoc done (x ∷ []) xs)
one_more done x (Err w) = refl

pub found_step : (places : ℕ → Option ℕ) (found found' : List ℕ) (i n : ℕ) (rest more numbers : List ℕ) → rest ≡ n ∷ more → AreFound places found rest numbers
    → places n ≡ Some i → found' ≡ found ++ i ∷ [] → AreFound places found' more numbers
found_step places found found' i n rest more numbers cut k is pushed = record {
  leads = ap (λ xs. behind xs (all_known places more)) pushed ∙ one_more found i (all_known places more)
      ∙ ap (λ r. behind found (r >>= λ y. (all_known places more >>= λ xs. Ok (y ∷ xs)))) (sym (ap known_of is)) ∙ (rw cut at k.leads);
}

pub found_fail : (places : ℕ → Option ℕ) (found : List ℕ) (n : ℕ) (rest more numbers : List ℕ) → rest ≡ n ∷ more → AreFound places found rest numbers
    → places n ≡ None → all_known places numbers ≡ Err IndexUnknown
found_fail places found n rest more numbers cut k is =
    let fails : known places n ≡ Err IndexUnknown = ap known_of is in
    sym (rw (cut, fails) at k.leads)

pub found_done : (places : ℕ → Option ℕ) (found rest numbers : List ℕ) → rest ≡ [] → AreFound places found rest numbers → all_known places numbers ≡ Ok found
found_done places found rest numbers empty k = sym (rw (empty, append-nil) at k.leads)

known_step : {X : Type 0} (have : ℕ → X) (e : Option ℕ) (o : Option X) (places : Result (List ℕ) Word) (said : Result (List X) Word) → option_map have e ≡ o → said ≡ (places >>= λ is. Ok (map have is))
    → (known_of o >>= λ x. (said >>= λ xs. Ok (x ∷ xs))) ≡ ((known_of e >>= λ i. (places >>= λ is. Ok (i ∷ is))) >>= λ is. Ok (map have is))
known_step have None o places said a b = rw (← a) refl
known_step have (Some i) o (Ok is) said a b = rw (← a, b) refl
known_step have (Some i) o (Err w) said a b = rw (← a, b) refl

-- several numbers stand for what their places have
known_all : {X : Type 0} (numbers : Numbering) (have : ℕ → X) (mean : ℕ → Option X) → Numbered numbers have mean → (ns : List ℕ)
    → all_known mean ns ≡ (all_known (entry numbers) ns >>= λ is. Ok (map have is))
known_all numbers have mean h [] = refl
known_all numbers have mean h (n ∷ ns) = known_step have (entry numbers n) (mean n) (all_known (entry numbers) ns) (all_known mean ns) (h.same n) (known_all numbers have mean h ns)

pub found_all : {X : Type 0} (numbers : Numbering) (have : ℕ → X) (mean : ℕ → Option X) (ns : List ℕ) (r : Result (Vec ℕ Global) TakeError) → Numbered numbers have mean
    → Makes (λ (v : Vec ℕ Global). v.items) r (all_known (entry numbers) ns) → Makes (λ (v : Vec ℕ Global). map have v.items) r (all_known mean ns)
found_all numbers have mean ns (Ok v) h m = known_all numbers have mean h ns ∙ ap (λ r. r >>= λ is. Ok (map have is)) m
found_all numbers have mean ns (Err errors.NoMemory) h m = tt
found_all numbers have mean ns (Err (errors.Fault w)) h m = known_all numbers have mean h ns ∙ ap (λ r. r >>= λ is. Ok (map have is)) m

-- one place more is looked at
pub place_more : {X : Type 0} (f : ℕ → X) (found found' : List X) (rest more places : List ℕ) (i : ℕ) → rest ≡ i ∷ more → found' ≡ found ++ f i ∷ [] → found ++ map f rest ≡ map f places → found' ++ map f more ≡ map f places
place_more f found found' rest more places i e g h = rw g (append_assoc found (f i ∷ []) (map f more) ∙ (rw e at h))

fused : {X Y : Type 0} (f : X → Y) (g : ℕ → X) (is : List ℕ) → map f (map g is) ≡ map (λ i. f (g i)) is
fused f g [] = refl
fused f g (i ∷ is) = ap (λ ys. f (g i) ∷ ys) (fused f g is)

-- what was found at the places is what all the numbers stand for
pub places_stand : {X Y : Type 0} (f : X → Y) (g : ℕ → X) (found : List X) (is : List ℕ) (said : Result (List Y) Word) → found ≡ map g is → said ≡ Ok (map (λ i. f (g i)) is) → said ≡ Ok (map f found)
places_stand f g found is said e h = rw e (h ∙ ap Ok (sym (fused f g is)))
