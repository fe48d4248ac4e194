-- A walk gathers the outermost occurrences, and what it leaves holds nothing new once they are met.
use Rattle.std.proofs.Common.{◌≡◌, ℕ, ◌<◌, ◌+◌, Bool, true, false, ◌&&◌, ◌||◌, List, [], ◌∷◌, ◌++◌, map, All, Option, Some, Result, refl, sym, ap, subst, ◌∙◌, inl, inr, append_assoc, length, arith}
use Rattle.std.specs.Prelude.{if◌then◌else◌}
use Rattle.std.proofs.lemmas.List.{map-append}
use Rattle.std.proofs.lemmas.List.Elements.{All-weaker, All-push}
use Rattle.lk_tree.specs.Tree.{Name, Tree}
use Rattle.lk_tree.specs.declared.rule.Rule.{Rule}
use Rattle.lk_rulebook.specs.Place.{Place}
use Rattle.lk_inductive.specs.BlockSteps.{is_among}
use Rattle.lk_store.specs.Contents.{Contents, tree_at}
use Rattle.lk_ask.specs.declared.stop.Stop.{Stop}
use Rattle.lk_ask.specs.declared.stop.Stop.TheVariants.{No, Spent, NoMemory}
use Rattle.lk_seek.specs.declared.visit.Visit.{Visit}
use Rattle.lk_seek.specs.declared.visit.Visit.TheVariants.{Enter, Leave}
use Rattle.lk_seek.specs.Visits.{IsEntered, turns}
use Rattle.lk_seek.proofs.Visits.{IsUnderWay, leaves, leaves_clear, leaves_less, looked, looked_less, enters_known, stopped}
use Rattle.lk_mentions.specs.declared.part.Met.{Met}
use Rattle.lk_nested.specs.HeldFirsts.{first_laws}
use Rattle.lk_nested.specs.Halts as halt
use Rattle.lk_nested.specs.Halts.{IsStopped, unmet}
use Rattle.lk_nested.specs.Occurrences.{test_at, is_occurrence}
use Rattle.lk_nested.specs.Outermost.{are_among, unmet_of, Tell, AreGathered, IsTaken, AreOutermost, AreOutermostIf, Tells}
use Rattle.lk_nested.specs.Unmet.{First, nothing, new, refused_by, first_unmet}
use Rattle.lk_nested.proofs.Meeting.{tree_itself}
use Rattle.lk_nested.proofs.Tests.{occurring}
use Rattle.lk_rulebook.specs.SameTree.{is_same_tree}
use Rattle.lk_seek.specs.Costs.{tree_cost}

and_both : (a b : Bool) → (a && b) ≡ true → (a ≡ true) × (b ≡ true)
and_both true b h = (refl, h)
and_both false b h = absurd cc

or_true : (a b : Bool) → b ≡ true → (a || b) ≡ true
or_true true b h = refl
or_true false b h = h

not_both : {X : Type 0} (b : Bool) → b ≡ true → b ≡ false → X
not_both true h k = absurd cc
not_both false h k = absurd cc

module _ (met : List Tree) where
  pub of_true : (os : List Tree) (k : First) → are_among os met ≡ true → unmet_of met os k ≡ k
  of_true [] k h = refl
  of_true (o ∷ os) k h =
      let both = and_both (is_among o met) (are_among os met) h in
      ap (λ (b : Bool). if b then unmet_of met os k else new o) both.0 ∙ of_true os k both.1

  pub of_false : (os : List Tree) (k l : First) → are_among os met ≡ false → unmet_of met os k ≡ unmet_of met os l
  of_false [] k l h = absurd cc
  of_false (o ∷ os) k l h = go (is_among o met) (of_false os k l) h
    where
      go : (b : Bool) → (are_among os met ≡ false → unmet_of met os k ≡ unmet_of met os l) → (b && are_among os met) ≡ false → (if b then unmet_of met os k else new o) ≡ (if b then unmet_of met os l else new o)
      go true others e = others e
      go false others e = refl

  of_append : (os : List Tree) (p : Tree) (k : First) → unmet_of met (os ++ p ∷ []) k ≡ unmet_of met os (if is_among p met then k else new p)
  of_append [] p k = refl
  of_append (o ∷ os) p k = ap (λ x. if is_among o met then x else new o) (of_append os p k)

  among_append : (os : List Tree) (p : Tree) → are_among (os ++ p ∷ []) met ≡ (are_among os met && is_among p met)
  among_append [] p = go (is_among p met)
    where
      go : (b : Bool) → (b && true) ≡ b
      go true = refl
      go false = refl
  among_append (o ∷ os) p = go (is_among o met) (among_append os p)
    where
      go : (b : Bool) → are_among (os ++ p ∷ []) met ≡ (are_among os met && is_among p met) → (b && are_among (os ++ p ∷ []) met) ≡ ((b && are_among os met) && is_among p met)
      go true others = others
      go false others = refl

among_one : (t : Tree) → is_among t (t ∷ []) ≡ true
among_one t = ap (λ b. b || false) (tree_itself t)

pub among_behind : (o : Tree) (pre os : List Tree) → is_among o (pre ++ o ∷ os) ≡ true
among_behind o [] os = ap (λ b. b || is_among o os) (tree_itself o)
among_behind o (x ∷ pre) os = or_true (is_same_tree o x) (is_among o (pre ++ o ∷ os)) (among_behind o pre os)

-- each of them is one of them
are_all : (os pre : List Tree) → are_among os (pre ++ os) ≡ true
are_all [] pre = refl
are_all (o ∷ os) pre =
    ap (λ b. b && are_among os (pre ++ o ∷ os)) (among_behind o pre os)
    ∙ ap (are_among os) (sym (append_assoc pre (o ∷ []) os)) ∙ are_all os (pre ++ o ∷ [])

pub record IsGathering (w : Place) (ns : List Name) (c : Contents) (root : ℕ) (os : List Tree) (stack : List (Visit ℕ)) : Type 0 where
  pub under_way : (met : List Tree) → are_among os met ≡ true → IsUnderWay (unmet w ns met c) (first_unmet w ns met (tree_at c root)) stack
  pub firsts : (met : List Tree) (k : First) → are_among os met ≡ false → first_unmet w ns met (tree_at c root) ≡ unmet_of met os k

module _ (w : Place) (ns : List Name) (c : Contents) (root : ℕ) where
  pub entered_known : (os : List Tree) (stack rest : List (Visit ℕ)) (p : ℕ) → IsGathering w ns c root os stack → stack ≡ rest ++ Enter p ∷ [] → p < length c.trees
  entered_known os stack rest p g popped =
      enters_known (unmet w ns os c) (first_laws c) (first_unmet w ns os (tree_at c root)) stack rest p popped (g.under_way os (are_all os []))

  pub gathering_starts : root < length c.trees → IsGathering w ns c root [] (Enter root ∷ [])
  gathering_starts known = record {
    under_way = λ met h. record { waiting = (known, tt); whole = refl };
    firsts = λ met k h. absurd cc;
  }

  pub gathering_ends : (os : List Tree) (stack : List (Visit ℕ)) → IsGathering w ns c root os stack → stack ≡ [] → Tell w ns (tree_at c root) os nothing
  gathering_ends os stack g none met = go (are_among os met) refl
    where
      go : (b : Bool) → are_among os met ≡ b → first_unmet w ns met (tree_at c root) ≡ unmet_of met os nothing
      go true h = sym (subst (λ vs. IsUnderWay (unmet w ns met c) (first_unmet w ns met (tree_at c root)) vs) none (g.under_way met h)).whole ∙ sym (of_true met os nothing h)
      go false h = g.firsts met nothing h

  module _ (os : List Tree) (stack rest : List (Visit ℕ)) (p : ℕ) (g : IsGathering w ns c root os stack) where
    module _ (popped : stack ≡ rest ++ Leave p ∷ []) where
      pub left_gathering : IsGathering w ns c root os rest
      left_gathering = record {
        under_way = λ met h. leaves (unmet w ns met c) (first_laws c) (first_unmet w ns met (tree_at c root)) stack rest p popped (g.under_way met h);
        firsts = g.firsts;
      }

      pub left_less : turns (unmet w ns [] c) rest < turns (unmet w ns [] c) stack
      left_less = leaves_less (unmet w ns [] c) (first_laws c) nothing stack rest p popped

      pub left_done : (met : List Tree) → are_among os met ≡ true → first_unmet w ns met (tree_at c p) ≡ nothing
      left_done met h = leaves_clear (unmet w ns met c) (first_laws c) (first_unmet w ns met (tree_at c root)) stack rest p popped (g.under_way met h)

    module _ (popped : stack ≡ rest ++ Enter p ∷ []) where
      entered_gathering : (on : List (Visit ℕ)) → ((met : List Tree) → are_among os met ≡ true → IsEntered (unmet w ns met c) p rest on) → IsGathering w ns c root os on
      entered_gathering on enters = record {
        under_way = λ met h. looked (unmet w ns met c) (first_laws c) (first_unmet w ns met (tree_at c root)) stack rest p popped (g.under_way met h) on (enters met h);
        firsts = g.firsts;
      }

      module _ (occurs : is_occurrence (test_at w ns (tree_at c p)) ≡ true) where
        -- it is the first that is new
        first_is : (met : List Tree) → p < length c.trees → are_among os met ≡ true → is_among (tree_at c p) met ≡ false → first_unmet w ns met (tree_at c root) ≡ new (tree_at c p)
        first_is met known h other =
            (stopped (unmet w ns met c) (first_laws c) (first_unmet w ns met (tree_at c root)) stack rest p popped (g.under_way met h) (halt.met p) (known, occurring w ns met (tree_at c p) false occurs other)).1

        taken_gathering : p < length c.trees → IsGathering w ns c root (os ++ tree_at c p ∷ []) rest
        taken_gathering known = record {
          under_way = λ met h.
              let both = and_both (are_among os met) (is_among (tree_at c p) met) (sym (among_append met os (tree_at c p)) ∙ h) in
              looked (unmet w ns met c) (first_laws c) (first_unmet w ns met (tree_at c root)) stack rest p popped (g.under_way met both.0) rest
              (inl (refl, occurring w ns met (tree_at c p) true occurs both.1));
          firsts = λ met k h. go met k (are_among os met) refl (is_among (tree_at c p) met) refl (sym (among_append met os (tree_at c p)) ∙ h);
        }
          where
            go : (met : List Tree) (k : First) (a : Bool) → are_among os met ≡ a → (b : Bool) → is_among (tree_at c p) met ≡ b → (are_among os met && is_among (tree_at c p) met) ≡ false
                → first_unmet w ns met (tree_at c root) ≡ unmet_of met (os ++ tree_at c p ∷ []) k
            go met k false h b i both = g.firsts met (if is_among (tree_at c p) met then k else new (tree_at c p)) h ∙ sym (of_append met os (tree_at c p) k)
            go met k true h true i both = not_both true refl (sym (ap (λ x. x && is_among (tree_at c p) met) h ∙ i) ∙ both)
            go met k true h false i both =
                first_is met known h i
                ∙ sym (of_append met os (tree_at c p) k ∙ ap (λ (b : Bool). unmet_of met os (if b then k else new (tree_at c p))) i ∙ of_true met os (new (tree_at c p)) h)

      pub refused_gathering : (r : Rule) → ((met : List Tree) → first_unmet w ns met (tree_at c p) ≡ refused_by r) → Tell w ns (tree_at c root) os (refused_by r)
      refused_gathering r refuses met = go (are_among os met) refl
        where
          go : (b : Bool) → are_among os met ≡ b → first_unmet w ns met (tree_at c root) ≡ unmet_of met os (refused_by r)
          go true h =
              stopped (unmet w ns met c) (first_laws c) (first_unmet w ns met (tree_at c root)) stack rest p popped (g.under_way met h) (halt.halted (No r)) (refuses met)
              ∙ sym (of_true met os (refused_by r) h)
          go false h = g.firsts met (refused_by r) h

-- the turns of a walk, whatever was met
turns_same : (w : Place) (ns : List Name) (c : Contents) (met more : List Tree) (vs : List (Visit ℕ)) → turns (unmet w ns met c) vs ≡ turns (unmet w ns more c) vs
turns_same w ns c met more [] = refl
turns_same w ns c met more (Enter p ∷ vs) = ap (λ n. tree_cost (tree_at c p) + 1 + n) (turns_same w ns c met more vs)
turns_same w ns c met more (Leave p ∷ vs) = ap (λ n. 1 + n) (turns_same w ns c met more vs)

module _ (w : Place) (ns : List Name) (c : Contents) (root : ℕ) (os ps : List ℕ) (stack rest on : List (Visit ℕ)) (p : ℕ) where
  pub taken : IsGathering w ns c root (map (tree_at c) os) stack → stack ≡ rest ++ Enter p ∷ [] → p < length c.trees → IsTaken w ns c p os ps rest on → IsGathering w ns c root (map (tree_at c) ps) on
  taken g popped known (inl h) =
      subst (λ qs. IsGathering w ns c root (map (tree_at c) qs) on) (sym h.0) (entered_gathering w ns c root (map (tree_at c) os) stack rest p g popped on h.1)
  taken g popped known (inr h) =
      subst (λ vs. IsGathering w ns c root (map (tree_at c) ps) vs) (sym h.1)
      (subst (λ ts. IsGathering w ns c root ts rest) (sym (ap (map (tree_at c)) h.0 ∙ map-append (tree_at c) os (p ∷ [])))
      (taken_gathering w ns c root (map (tree_at c) os) stack rest p g popped h.2 known))

  -- what was looked through stays so
  pub done_taken : IsTaken w ns c p os ps rest on → (done_ : List Met) → AreGathered w ns c os done_ → AreGathered w ns c ps done_
  done_taken t done_ =
      All-weaker (λ (m : Met). (met : List Tree) → are_among (map (tree_at c) os) met ≡ true → first_unmet w ns met (tree_at c m.tree) ≡ nothing)
      (λ (m : Met). (met : List Tree) → are_among (map (tree_at c) ps) met ≡ true → first_unmet w ns met (tree_at c m.tree) ≡ nothing)
      (λ m h met among. h met (before t met among)) done_
    where
      before : IsTaken w ns c p os ps rest on → (met : List Tree) → are_among (map (tree_at c) ps) met ≡ true → are_among (map (tree_at c) os) met ≡ true
      before (inl h) met among = subst (λ qs. are_among (map (tree_at c) qs) met ≡ true) h.0 among
      before (inr h) met among =
          (and_both (are_among (map (tree_at c) os) met) (is_among (tree_at c p) met)
          (sym (among_append met (map (tree_at c) os) (tree_at c p)) ∙ ap (λ ts. are_among ts met) (sym (ap (map (tree_at c)) h.0 ∙ map-append (tree_at c) os (p ∷ []))) ∙ among)).0

  pub found_taken : IsTaken w ns c p os ps rest on → p < length c.trees → All (λ o. o < length c.trees) os → All (λ o. o < length c.trees) ps
  found_taken (inl h) known all = subst (All (λ o. o < length c.trees)) (sym h.0) all
  found_taken (inr h) known all = subst (All (λ o. o < length c.trees)) (sym h.0) (All-push (λ o. o < length c.trees) os p all known)

  -- the walk comes nearer its end
  pub taken_less : stack ≡ rest ++ Enter p ∷ [] → IsTaken w ns c p os ps rest on → turns (unmet w ns [] c) on < turns (unmet w ns [] c) stack
  taken_less popped (inl h) =
      let all = map (tree_at c) os in
      let less = looked_less (unmet w ns all c) (first_laws c) nothing stack rest p popped on (inl_or h.1 all) in
      same_turns all less
    where
      inl_or : ((met : List Tree) → are_among (map (tree_at c) os) met ≡ true → IsEntered (unmet w ns met c) p rest on) → (met : List Tree) → IsEntered (unmet w ns (map (tree_at c) os) c) p rest on
      inl_or k met = k (map (tree_at c) os) (are_all (map (tree_at c) os) [])

      same_turns : (met : List Tree) → turns (unmet w ns met c) on < turns (unmet w ns met c) stack → turns (unmet w ns [] c) on < turns (unmet w ns [] c) stack
      same_turns met less = let a = turns_same w ns c met [] on in let b = turns_same w ns c met [] stack in omega arith
  taken_less popped (inr h) =
      let t = tree_at c p in
      let less = looked_less (unmet w ns (t ∷ []) c) (first_laws c) nothing stack rest p popped on (inl (h.1, occurring w ns (t ∷ []) t true h.2 (among_one t))) in
      let a = turns_same w ns c (t ∷ []) [] on in
      let b = turns_same w ns c (t ∷ []) [] stack in
      omega arith

module _ (w : Place) (ns : List Name) (c : Contents) (root : ℕ) (os : List ℕ) (stack rest : List (Visit ℕ)) (p : ℕ) where
  -- a look-up is refused
  pub ended : IsGathering w ns c root (map (tree_at c) os) stack → stack ≡ rest ++ Enter p ∷ [] → All (λ o. o < length c.trees) os → (ps : List ℕ) → ps ≡ os
      → (stop : Stop) → ((met : List Tree) → IsStopped (first_unmet w ns met (tree_at c p)) stop) → (result : Result (Option Rule) Stop) → Tells stop result → AreOutermostIf w ns c root ps result
  ended g popped known ps same (No r) stops result is =
      subst (AreOutermostIf w ns c root ps) (sym is) (subst (λ qs. AreOutermost w ns c root qs (Some r)) (sym same) (record {
        found_in = known;
        tell = refused_gathering w ns c root (map (tree_at c) os) stack rest p g popped r stops;
      }))
  ended g popped known ps same Spent stops result is = absurd (stops [])
  ended g popped known ps same NoMemory stops result is = subst (AreOutermostIf w ns c root ps) (sym is) refl
