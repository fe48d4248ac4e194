-- Items that are made one after another, each from what a list names.
use Rattle.std.proofs.Common.{◌≡◌, ℕ, List, [], ◌∷◌, ◌++◌, map, ap, sym, ◌∙◌, append_assoc}
use Rattle.std.specs.Prelude.{All}
use Rattle.std.specs.List.{flat_map}
use Rattle.std.proofs.lemmas.List.{map-append, append-nil}
use Rattle.std.proofs.lemmas.List.Elements.{All-append, All-nil, All-same}
use Rattle.lk_store.specs.Contents.{Contents}
use Rattle.lk_members.specs.declared.line.StoredLine.{StoredLine}
use Rattle.lk_members.specs.Stored.{AreLinesIn}
use Rattle.lk_members.specs.Finishing.{AreMade}

-- what is made so far, where these are left
pub record IsUnderWay {A X V : Type 0} (value : Contents → A → V) (stated : Contents → X → V) (IsKnown : Contents → A → Type 0) (lines : List StoredLine) (left all : List X) (made : List A) : Type 0 where
  pub same : (c : Contents) → map (value c) made ++ map (stated c) left ≡ map (stated c) all
  pub known : (c : Contents) → AreLinesIn c lines → All (IsKnown c) made

module _ {A X V : Type 0} (value : Contents → A → V) (stated : Contents → X → V) (IsKnown : Contents → A → Type 0) (lines : List StoredLine) where
  -- a part more is made
  pub made_more : (left part more all : List X) (made extra new : List A) → left ≡ part ++ more → new ≡ made ++ extra → AreMade value stated IsKnown lines part extra
      → IsUnderWay value stated IsKnown lines left all made → IsUnderWay value stated IsKnown lines more all new
  made_more left part more all made extra new is pushed next u = record {
    same = λ c.
        let others = map (stated c) more in
        ap (λ (m : List A). map (value c) m ++ others) pushed
        ∙ ap (λ m. m ++ others) (map-append (value c) made extra)
        ∙ append_assoc (map (value c) made) (map (value c) extra) others
        ∙ ap (λ m. map (value c) made ++ (m ++ others)) (next.same c)
        ∙ ap (λ m. map (value c) made ++ m) (sym (map-append (stated c) part more))
        ∙ ap (λ (ns : List X). map (value c) made ++ map (stated c) ns) (sym is)
        ∙ u.same c;
    known = λ c all. All-same (IsKnown c) new (made ++ extra) pushed (All-append (IsKnown c) made extra (u.known c all) (next.known c all));
  }

  pub none_made : (all : List X) (made : List A) → made ≡ [] → IsUnderWay value stated IsKnown lines all all made
  none_made all made e = record {
    same = λ c. ap (λ (m : List A). map (value c) m ++ map (stated c) all) e;
    known = λ c known. All-same (IsKnown c) made [] e (All-nil (IsKnown c));
  }

  pub all_made : (left all : List X) (made : List A) → left ≡ [] → IsUnderWay value stated IsKnown lines left all made → AreMade value stated IsKnown lines all made
  all_made left all made none u = record {
    same = λ c. sym (append-nil (map (value c) made)) ∙ ap (λ (ns : List X). map (value c) made ++ map (stated c) ns) (sym none) ∙ u.same c;
    known = u.known;
  }

  -- one part for each name
  pub goes_on : (f : ℕ → List X) (names rest more : List ℕ) (x : ℕ) (made extra new : List A) → rest ≡ x ∷ more → new ≡ made ++ extra → AreMade value stated IsKnown lines (f x) extra
      → IsUnderWay value stated IsKnown lines (flat_map f rest) (flat_map f names) made → IsUnderWay value stated IsKnown lines (flat_map f more) (flat_map f names) new
  goes_on f names rest more x made extra new is pushed next u =
      made_more (flat_map f rest) (f x) (flat_map f more) (flat_map f names) made extra new (ap (flat_map f) is) pushed next u
