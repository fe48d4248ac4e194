-- What is so of a row under way stays so while the store grows.
use Rattle.std.proofs.Common.{ℕ, ◌≡◌, ◌<◌, ◌+◌, length, List, [], ◌∷◌, refl, sym, subst, ◌∙◌, arith}
use Rattle.lk_tree.specs.Tree.{Tree}
use Rattle.lk_rulebook.specs.Place.{Place}
use Rattle.lk_rulebook.specs.Structures.{RecApp, on_major}
use Rattle.lk_rulebook.specs.Claims.{reduces}
use Rattle.lk_rulebook.specs.WellStated.{WellStated}
use Rattle.lk_questions.specs.Query.{Query, core}
use Rattle.lk_store.specs.Contents.{Contents, Extends, IsTree}
use Rattle.lk_spine.specs.Reading.{AreTrees}
use Rattle.lk_subst.specs.Numbers.{trees-steady, trees-known}
use Rattle.lk_env.specs.StoredLibrary.{StoredLibrary}
use Rattle.lk_step.specs.declared.step.Row.{Row}
use Rattle.lk_step.specs.Runs.{Runs}
use Rattle.lk_step.specs.Told.{IsAnsweredWithin}
use Rattle.lk_step.specs.Parts.{IsWhole, Chains, FollowsCore}
use Rattle.lk_step.proofs.PartsIn.{part_stays}
use Rattle.lk_derive_iota.specs.declared.redexes.Redex.{Redex}
use Rattle.lk_derive_iota.specs.Redexes.{IsRedex}
use Rattle.lk_derive_iota.specs.Stages.{Stage, at_rule, program_of, FactsOf, IsUnderWay, IsReduced, IsBefore}

pub tree_grows : {c d : Contents} → Extends c d → (n : ℕ) (t : Tree) → IsTree c n t → IsTree d n t
tree_grows x n t h = let longer = x.trees.longer in let known = h.known in record { known = omega arith; is = x.trees.same n h.known ∙ h.is }

pub trees_grow : {c d : Contents} → Extends c d → (es : List ℕ) (ts : List Tree) → AreTrees c es ts → AreTrees d es ts
trees_grow {c = c} {d = d} x es ts h = record { known = trees-known c d es x h.known; are = trees-steady c d es x h.known ∙ h.are }

pub redex_grows : {w : Place} {c d : Contents} → Extends c d → (l : StoredLibrary) (u : Redex) (R : RecApp w) (e m : Tree) (rest : List Tree) → IsRedex c l u R e m rest → IsRedex d l u R e m rest
redex_grows x l u R e m rest h =
    let longer = x.lists.longer in
    let levels = h.levels_in in
    record {
      entry_is = h.entry_is;
      levels_in = omega arith;
      levels_are = x.lists.same u.levels h.levels_in ∙ h.levels_are;
      k_is = h.k_is;
      application_is = tree_grows x u.application _ h.application_is;
      front_is = tree_grows x u.front _ h.front_is;
      major_is = tree_grows x u.major _ h.major_is;
      reached_is = tree_grows x u.reached _ h.reached_is;
      shared_are = trees_grow x u.shared.items _ h.shared_are;
      behind_are = trees_grow x u.behind.items _ h.behind_are;
    }

abbrev pub under_way_grows : {w : Place} {l : StoredLibrary} {c d : Contents} {r : Row} {most : ℕ} {u : Redex} {m : Tree} {s : Stage} {b : ℕ} → Extends c d → IsUnderWay w l c r most u m s b → IsUnderWay w l d r most u m s b
under_way_grows {w = w} {l = l} {c = c} {d = d} {r = r} {u = u} {m = m} x h = record {
  R = h.R;
  e = h.e;
  first = h.first;
  rest = h.rest;
  redex = redex_grows x l u h.R h.e h.first h.rest h.redex;
  e_is = h.e_is;
  value = h.value;
  cost = h.cost;
  answered = h.answered;
  within = h.within;
  fine = h.fine;
  fine_at = h.fine_at;
  spent = h.spent;
  second = h.second;
  paid = h.paid;
  part = part_stays w c d x r (reduces (on_major h.R h.first) (on_major h.R m) ∷ []) h.spent h.part;
  facts = h.facts;
  runs = h.runs;
}

-- at the same place, over the same library, at the same tree
pub under_way_at : {w w' : Place} {l l' : StoredLibrary} {c : Contents} {r : Row} {most : ℕ} {u : Redex} {m m' : Tree} {s : Stage} {b : ℕ} → w' ≡ w → l' ≡ l → m' ≡ m → IsUnderWay w l c r most u m s b → IsUnderWay w' l' c r most u m' s b
under_way_at {w = w} {l = l} {l' = l'} {c = c} {r = r} {most = most} {u = u} {m = m} {m' = m'} {s = s} {b = b} ew el em h =
    subst (λ z. IsUnderWay z l' c r most u m' s b) (sym ew) (subst (λ z. IsUnderWay w z c r most u m' s b) (sym el) (subst (λ z. IsUnderWay w l c r most u z s b) (sym em) h))

-- over more calls
pub under_way_on : {w w' : Place} {l l' : StoredLibrary} {c d : Contents} {r : Row} {most : ℕ} {u : Redex} {m m' : Tree} {s : Stage} {b : ℕ} → w' ≡ w → l' ≡ l → Extends c d → m' ≡ m → IsUnderWay w l c r most u m s b → IsUnderWay w' l' d r most u m' s b
under_way_on ew el x em h = under_way_at ew el em (under_way_grows x h)

-- at another stage, which the row does not see
abbrev pub move : {w : Place} {l : StoredLibrary} {c : Contents} {r : Row} {most : ℕ} {u : Redex} {m : Tree} {s : Stage} {b : ℕ} (h : IsUnderWay w l c r most u m s b) (t : Stage) (b' n : ℕ) → h.spent + b' + n < h.cost → FactsOf h.R t →
    Runs w (program_of h.R h.e h.first h.rest t) h.value n → IsUnderWay w l c r most u m t b'
move h t b' n paid facts runs = record {
  R = h.R;
  e = h.e;
  first = h.first;
  rest = h.rest;
  redex = h.redex;
  e_is = h.e_is;
  value = h.value;
  cost = h.cost;
  answered = h.answered;
  within = h.within;
  fine = h.fine;
  fine_at = h.fine_at;
  spent = h.spent;
  second = n;
  paid = paid;
  part = h.part;
  facts = facts;
  runs = runs;
}

-- the same, where it costs nothing
abbrev pub move_on : {w : Place} {l : StoredLibrary} {c : Contents} {r : Row} {most : ℕ} {u : Redex} {m : Tree} {s : Stage} {b : ℕ} (h : IsUnderWay w l c r most u m s b) (t : Stage) → FactsOf h.R t →
    Runs w (program_of h.R h.e h.first h.rest t) h.value h.second → IsUnderWay w l c r most u m t b
move_on {b = b} h t facts runs = move h t b h.second h.paid facts runs

pub reduced_on : {w w' : Place} {c d : Contents} {r : Row} {most : ℕ} {u : Redex} {v v' : Tree} → w' ≡ w → Extends c d → v' ≡ v → IsReduced w c r most u v → IsReduced w' d r most u v'
reduced_on {w = w} {c = c} {d = d} {r = r} {most = most} {u = u} {v = v} {v' = v'} ew x ev h =
    let grown : IsReduced w d r most u v = record {
      e = h.e;
      from = h.from;
      rest = h.rest;
      application_is = tree_grows x u.application h.e h.application_is;
      reached_is = tree_grows x u.reached h.from h.reached_is;
      behind_are = trees_grow x u.behind.items h.rest h.behind_are;
      e_is = h.e_is;
      value = h.value;
      cost = h.cost;
      answered = h.answered;
      within = h.within;
      fine = h.fine;
      fine_at = h.fine_at;
      spent = h.spent;
      second = h.second;
      paid = h.paid;
      part = part_stays w c d x r (reduces h.from v ∷ []) h.spent h.part;
      next = h.next;
    } in
    subst (λ z. IsReduced z d r most u v') (sym ew) (subst (λ z. IsReduced w d r most u z) (sym ev) grown)

pub before_at : {w w' : Place} {c : Contents} {r : Row} {most : ℕ} {u : Redex} {v v' : Tree} → w' ≡ w → v' ≡ v → IsBefore w c r most u v → IsBefore w' c r most u v'
before_at {w = w} {c = c} {r = r} {most = most} {u = u} {v' = v'} ew ev h = subst (λ z. IsBefore z c r most u v') (sym ew) (subst (λ z. IsBefore w c r most u z) (sym ev) h)

pub chains_at : {c : Contents} {old new : Row} {x x' y y' z z' : Tree} → x' ≡ x → y' ≡ y → z' ≡ z → Chains c old new x' y' z' → Chains c old new x y z
chains_at {c = c} {old = old} {new = new} {x = x} {y = y} {y' = y'} {z' = z'} ex ey ez h =
    subst (λ q. Chains c old new x y q) ez (subst (λ q. Chains c old new x q z') ey (subst (λ q. Chains c old new q y' z') ex h))

-- what was told at another state
pub within_at : {w w' : Place} {most : ℕ} {q q' : Query} → w' ≡ w → q' ≡ q → IsAnsweredWithin w q most → IsAnsweredWithin w' q' most
within_at {w = w} {most = most} {q' = q'} ew eq h = subst (λ z. IsAnsweredWithin z q' most) (sym ew) (subst (λ z. IsAnsweredWithin w z most) (sym eq) h)

pub whole_at : {w w' : Place} {c : Contents} {r : Row} {e e' : Tree} → w' ≡ w → e' ≡ e → IsWhole w c (core e) r → IsWhole w' c (core e') r
whole_at {w = w} {c = c} {r = r} {e' = e'} ew ee h = subst (λ z. IsWhole z c (core e') r) (sym ew) (subst (λ z. IsWhole w c (core z) r) (sym ee) h)

pub follows_at : {w w' : Place} {c d : Contents} {old new : Row} {e e' v v' : Tree} → w' ≡ w → e' ≡ e → v' ≡ v → FollowsCore w c d old new e v → FollowsCore w' c d old new e' v'
follows_at {w = w} {c = c} {d = d} {old = old} {new = new} {e = e} {e' = e'} {v' = v'} ew ee ev h =
    subst (λ z. FollowsCore z c d old new e' v') (sym ew) (subst (λ z. FollowsCore w c d old new z v') (sym ee) (subst (λ z. FollowsCore w c d old new e z) (sym ev) h))

pub stated_at : {w w' : Place} → w' ≡ w → WellStated w → WellStated w'
stated_at e h = subst WellStated (sym e) h

pub rule_on : {w w' : Place} {l l' : StoredLibrary} {c : Contents} {r : Row} {most : ℕ} {u : Redex} {i : ℕ} {n n' v : Tree} → w' ≡ w → l' ≡ l → n' ≡ n → IsUnderWay w l c r most u n (at_rule i n v) 0 → IsUnderWay w' l' c r most u n' (at_rule i n' v) 0
rule_on {w = w} {l = l} {l' = l'} {c = c} {r = r} {most = most} {u = u} {i = i} {n' = n'} {v = v} ew el en h =
    subst (λ z. IsUnderWay z l' c r most u n' (at_rule i n' v) 0) (sym ew) (subst (λ z. IsUnderWay w z c r most u n' (at_rule i n' v) 0) (sym el) (subst (λ z. IsUnderWay w l c r most u z (at_rule i z v) 0) (sym en) h))

-- nothing is listed
pub none_listed : (ns : List ℕ) → length ns ≡ 0 → ns ≡ []
none_listed [] h = refl
none_listed (n ∷ ns) h = absurd cc
