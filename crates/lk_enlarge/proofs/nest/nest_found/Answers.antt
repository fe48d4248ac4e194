use Rattle.std.proofs.Common.{◌≡◌, ◌<◌, ◌∷◌, ℕ, List, [], true, false, Option, Some, None, length, map, sym, ap, subst, ◌∙◌, arith}
use Rattle.std.specs.Prelude.{option_map}
use Rattle.std.proofs.lemmas.List.{map-append}
use Rattle.std.proofs.lemmas.Result.{err_from_is_err_and}
use Rattle.lk_tree.specs.Tree.{Tree}
use Rattle.lk_inductive.specs.BlockSteps.{is_among}
use Rattle.lk_inductive.specs.Enlarged.{Aux}
use Rattle.lk_ask.specs.declared.stop.Stop.TheVariants.{No}
use Rattle.lk_nested.specs.Findings.{found, FindsNothing}
use Rattle.lk_mentions.specs.Names.{names_at}
use Rattle.lk_store.specs.Contents.{Contents, tree_at, Extends}
use Rattle.lk_store.proofs.Extending.{Extends-trans}
use Rattle.lk_lists.proofs.Lists.{rest_have, first_has, none_left}
use Rattle.lk_nested.specs.declared.swap.Pair.{Pair}
use Rattle.lk_nested.specs.Joined.{occurrences}
use Rattle.lk_nested.specs.Occurrences.{test_at, is_occurrence}
use Rattle.lk_nested.specs.Outermost.{last_of}
use Rattle.lk_nested.specs.Pairs.{pairs_at}
use Rattle.lk_nested.specs.Swaps.{instead, swapped}
use Rattle.lk_nested.proofs.Swapping.{instead_among, instead_none}
use Rattle.lk_auxiliary.specs.Auxiliaries.{auxs_at}
use Rattle.lk_auxiliary.specs.Settings.{setting_at}
use Rattle.lk_auxiliary.proofs.Others.{auxs_stay}
use Rattle.lk_enlarge.proofs.Grown.{setting_known, setting_stays, met_grown, meets_steady, pushed_are, pushed_known}
use Rattle.lk_enlarge.proofs.Loops.{CameTo, came_end, came_refused, came_stops, came_on}
use Rattle.lk_enlarge.proofs.Telling.{AreLeft, left_end, left_known, left_new, left_on}
use Rattle.lk_enlarge.proofs.Unmets.{new_occurs}
use Rattle.lk_enlarge.proofs.nest.nest_found.Goals as goal

none_of : {A : Type 0} (r : Option A) → ((o : A) → r ≡ Some o → ⊥) → r ≡ None
none_of None h = cc
none_of (Some o) h = absurd (h o cc)

-- the first of the rest, by the numbers of the store as it is now
module _ (before now : Contents) (keeps : Extends before now) (rest more : List ℕ) (o : ℕ) (split : rest ≡ o ∷ more) (known : o < length before.trees) where
  split_now : map (tree_at before) rest ≡ tree_at now o ∷ map (tree_at before) more
  split_now = ap (map (tree_at before)) split ∙ ap (λ t. t ∷ map (tree_at before) more) (sym (keeps.trees.same o known))

-- whether it was met
module _ (now : Contents) (ps qs : List Pair) (same : qs ≡ ps) (o : ℕ) (r : Option ℕ) (is : option_map (tree_at now) r ≡ instead (pairs_at now qs) (tree_at now o)) where
  was_met : (to : ℕ) → r ≡ Some to → is_among (tree_at now o) (occurrences (pairs_at now ps)) ≡ true
  was_met to some =
      ap (λ xs. is_among (tree_at now o) (occurrences (pairs_at now xs))) (sym same)
      ∙ instead_among (pairs_at now qs) (tree_at now o) (tree_at now to) (sym is ∙ ap (option_map (tree_at now)) some)

  was_not_met : r ≡ None → is_among (tree_at now o) (occurrences (pairs_at now ps)) ≡ false
  was_not_met none =
      ap (λ xs. is_among (tree_at now o) (occurrences (pairs_at now xs))) (sym same)
      ∙ instead_none (pairs_at now qs) (tree_at now o) (sym is ∙ ap (option_map (tree_at now)) none)

pub unmet-preserved-in-Some-instead : goal.unmet-preserved-in-Some-instead
unmet-preserved-in-Some-instead g c =
    let before = g.F.Terms.contents c.args.asks.now in
    let now = g.F.Terms.contents c.unmet.asks in
    let was = c.unmet.invariant in
    let w = (g.F.Asks.standing c.args.asks.now).place in
    let plain = setting_at before c.args.setting.now in
    let o = c.in-Some.o.now in
    let more = c.in-Some.more.now in
    let split = c.in-Some.ensures.cases.0 in
    let known = first_has (λ x. x < length before.trees) c.unmet.rest.now o more split was.rest_in in
    let ps = c.unmet.met.pairs.items in
    record {
      keeps = was.keeps;
      same_rest = was.same_rest;
      auxs_in = was.auxs_in;
      pairs_in = was.pairs_in;
      visited_in = was.visited_in;
      came = was.came;
      rest_in = rest_have (λ x. x < length before.trees) c.unmet.rest.now o more split was.rest_in;
      left =
          left_known w plain.names (tree_at before c.args.e) (last_of c.args.refused) (occurrences (pairs_at now ps)) (map (tree_at before) c.unmet.rest.now) (map (tree_at before) more) (tree_at now o)
          (split_now before now was.keeps c.unmet.rest.now more o split known) was.left
          (was_met now ps c.deref.result.now c.deref.ensures.value o c.instead.result c.instead.ensures.is c.in-Some-instead.field-0 c.in-Some-instead.is);
    }

pub meet-requires-clause-setting_in : goal.meet-requires-clause-setting_in
meet-requires-clause-setting_in g c = setting_known (g.F.Terms.contents c.args.asks.now) (g.F.Terms.contents c.unmet.asks) c.unmet.invariant.keeps c.args.setting.now c.requires.setting_in

pub meet-requires-clause-e_in : goal.meet-requires-clause-e_in
meet-requires-clause-e_in g c =
    let before = g.F.Terms.contents c.args.asks.now in
    let was = c.unmet.invariant in
    let known = first_has (λ x. x < length before.trees) c.unmet.rest.now c.in-Some.o.now c.in-Some.more.now c.in-Some.ensures.cases.0 was.rest_in in
    let longer = was.keeps.trees.longer in
    omega arith

pub meet-requires-clause-occurs : goal.meet-requires-clause-occurs
meet-requires-clause-occurs g c =
    let before = g.F.Terms.contents c.args.asks.now in
    let now = g.F.Terms.contents c.unmet.asks in
    let was = c.unmet.invariant in
    let w = (g.F.Asks.standing c.args.asks.now).place in
    let v = (g.F.Asks.standing c.unmet.asks).place in
    let place = ap (λ x. x.place) (g.met.F.Asks.decided c.unmet.asks c.args.asks.now was.same_rest).0 in
    let plain = setting_at before c.args.setting.now in
    let o = c.in-Some.o.now in
    let more = c.in-Some.more.now in
    let split = c.in-Some.ensures.cases.0 in
    let known = first_has (λ x. x < length before.trees) c.unmet.rest.now o more split was.rest_in in
    let ps = c.unmet.met.pairs.items in
    let E = tree_at before c.args.e in
    let first =
    left_new w plain.names E (last_of c.args.refused) (occurrences (pairs_at now ps)) (map (tree_at before) c.unmet.rest.now) (map (tree_at before) more) (tree_at now o)
    (split_now before now was.keeps c.unmet.rest.now more o split known) was.left
    (was_not_met now ps c.deref.result.now c.deref.ensures.value o c.instead.result c.instead.ensures.is (none_of c.instead.result c.in_default-instead.not-Some)) in
    ap (λ y. is_occurrence (test_at y (names_at now c.args.setting.now.names.now) (tree_at now o))) place
    ∙ ap (λ s. is_occurrence (test_at w s.names (tree_at now o))) (setting_stays before now was.keeps c.args.setting.now c.requires.setting_in)
    ∙ new_occurs w plain.names (occurrences (pairs_at now ps)) (tree_at now o) E first

pub returns-in_err-to-clause-nests : goal.returns-in_err-to-clause-nests
returns-in_err-to-clause-nests g c =
    let before = g.F.Terms.contents c.args.asks.now in
    let now = g.F.Terms.contents c.unmet.asks in
    let was = c.unmet.invariant in
    let w = (g.F.Asks.standing c.args.asks.now).place in
    let v = (g.F.Asks.standing c.unmet.asks).place in
    let place = ap (λ x. x.place) (g.met.F.Asks.decided c.unmet.asks c.args.asks.now was.same_rest).0 in
    let plain = setting_at before c.args.setting.now in
    let o = c.in-Some.o.now in
    let more = c.in-Some.more.now in
    let split = c.in-Some.ensures.cases.0 in
    let known = first_has (λ x. x < length before.trees) c.unmet.rest.now o more split was.rest_in in
    let ps = c.unmet.met.pairs.items in
    let E = tree_at before c.args.e in
    let first =
    left_new w plain.names E (last_of c.args.refused) (occurrences (pairs_at now ps)) (map (tree_at before) c.unmet.rest.now) (map (tree_at before) more) (tree_at now o)
    (split_now before now was.keeps c.unmet.rest.now more o split known) was.left
    (was_not_met now ps c.deref.result.now c.deref.ensures.value o c.instead.result c.instead.ensures.is (none_of c.instead.result c.in_default-instead.not-Some)) in
    let as_ = auxs_at now c.unmet.met.auxs.items in
    let stop = c.in_err-to.field-0.0 in
    let p = err_from_is_err_and c.from_residual.result c.from_residual.ensures.1 in
    rw (p.1, p.2) (came_stops w plain E (auxs_at before c.args.met.now.auxs.items) as_ (pairs_at now ps) was.came (tree_at now o) first stop
    (subst (λ f. FindsNothing f stop) (meets_steady before now was.keeps c.args.setting.now c.requires.setting_in v w place (tree_at now o) as_) c.in_err-to.ensures.meets))

pub unmet-preserved : goal.unmet-preserved
unmet-preserved g c =
    let before = g.F.Terms.contents c.args.asks.now in
    let now = g.F.Terms.contents c.unmet.asks in
    let after = g.F.Terms.contents c.meet.new.asks in
    let was = c.unmet.invariant in
    let w = (g.F.Asks.standing c.args.asks.now).place in
    let v = (g.F.Asks.standing c.unmet.asks).place in
    let place = ap (λ x. x.place) (g.met.F.Asks.decided c.unmet.asks c.args.asks.now was.same_rest).0 in
    let plain = setting_at before c.args.setting.now in
    let o = c.in-Some.o.now in
    let more = c.in-Some.more.now in
    let split = c.in-Some.ensures.cases.0 in
    let known = first_has (λ x. x < length before.trees) c.unmet.rest.now o more split was.rest_in in
    let known_now : o < length now.trees = (let longer = was.keeps.trees.longer in omega arith) in
    let ps = c.unmet.met.pairs.items in
    let pushed = c.push.new.self.items in
    let E = tree_at before c.args.e in
    let last = last_of c.args.refused in
    let met = occurrences (pairs_at now ps) in
    let all = map (tree_at before) c.unmet.rest.now in
    let os = map (tree_at before) more in
    let split_is = split_now before now was.keeps c.unmet.rest.now more o split known in
    let first = left_new w plain.names E last met all os (tree_at now o) split_is was.left (was_not_met now ps c.deref.result.now c.deref.ensures.value o c.instead.result c.instead.ensures.is (none_of c.instead.result c.in_default-instead.not-Some)) in
    let t = tree_at after c.in_ok-to.to in
    let grown = c.in_ok-to.ensures.keeps in
    let start = auxs_at before c.args.met.now.auxs.items in
    let as_ = auxs_at now c.unmet.met.auxs.items in
    let bs = auxs_at after c.meet.new.auxs.items in
    let pair : Pair = record { from = o; to = c.in_ok-to.to } in
    let pairs_are = pushed_are now after grown ps pushed pair c.in-Ok.ensures.items was.pairs_in known_now in
    record {
      keeps = Extends-trans before now after was.keeps grown;
      same_rest = c.in_ok-to.ensures.rest ∙ was.same_rest;
      auxs_in = c.in_ok-to.ensures.known;
      pairs_in = pushed_known now after grown ps pushed pair c.in-Ok.ensures.items was.pairs_in known_now c.in_ok-to.ensures.tree_known;
      visited_in = c.in_ok-to.ensures.visited_in;
      came = subst (CameTo w plain E start bs) (sym pairs_are)
          (came_on w plain E start as_ (pairs_at now ps) was.came (tree_at now o) first t bs
          (sym (meets_steady before now was.keeps c.args.setting.now c.requires.setting_in v w place (tree_at now o) as_) ∙ c.in_ok-to.ensures.meets));
      rest_in = rest_have (λ x. x < length before.trees) c.unmet.rest.now o more split was.rest_in;
      left = subst (λ xs. AreLeft w plain.names E xs os last) (sym (ap occurrences pairs_are ∙ map-append (λ p. p.0) (pairs_at now ps) ((tree_at now o, t) ∷ [])))
          (left_on w plain.names E last met all os (tree_at now o) split_is was.left);
    }

pub returns-in-Some-refused-clause-nests : goal.returns-in-Some-refused-clause-nests
returns-in-Some-refused-clause-nests g c =
    let before = g.F.Terms.contents c.args.asks.now in
    let now = g.F.Terms.contents c.unmet.asks in
    let was = c.unmet.invariant in
    let w = (g.F.Asks.standing c.args.asks.now).place in
    let plain = setting_at before c.args.setting.now in
    let ps = pairs_at now c.unmet.met.pairs.items in
    let E = tree_at before c.args.e in
    let end = left_end w plain.names E (last_of c.args.refused) (occurrences ps) (map (tree_at before) c.unmet.rest.now) (none_left (tree_at before) c.unmet.rest.now c.in_default.ensures.cases) was.left in
    came_refused w plain E (auxs_at before c.args.met.now.auxs.items) (auxs_at now c.unmet.met.auxs.items) ps was.came (No c.in-Some-refused.rule) (end ∙ ap last_of c.in-Some-refused.is)

pub returns-clause-met : goal.returns-clause-met
returns-clause-met g c =
    let before = g.F.Terms.contents c.args.asks.now in
    let now = g.F.Terms.contents c.unmet.asks in
    let was = c.unmet.invariant in
    let w = (g.F.Asks.standing c.args.asks.now).place in
    met_grown now (g.F.Terms.contents c.swap.new.terms) c.in_ok-swap.ensures.keeps w
    (setting_at before c.args.setting.now) c.args.setting.now
    (setting_known before now was.keeps c.args.setting.now c.requires.setting_in) c.unmet.met
    (record { auxs_in = was.auxs_in; pairs_in = was.pairs_in; visited_in = was.visited_in; met = was.came.met })

pub returns-clause-nests : goal.returns-clause-nests
returns-clause-nests g c =
    let before = g.F.Terms.contents c.args.asks.now in
    let now = g.F.Terms.contents c.unmet.asks in
    let after = g.F.Terms.contents c.swap.new.terms in
    let was = c.unmet.invariant in
    let w = (g.F.Asks.standing c.args.asks.now).place in
    let plain = setting_at before c.args.setting.now in
    let ps = pairs_at now c.unmet.met.pairs.items in
    let as_ = auxs_at now c.unmet.met.auxs.items in
    let E = tree_at before c.args.e in
    let end = left_end w plain.names E (last_of c.args.refused) (occurrences ps) (map (tree_at before) c.unmet.rest.now) (none_left (tree_at before) c.unmet.rest.now c.in_default.ensures.cases) was.left in
    let none : c.args.refused ≡ None = none_of c.args.refused c.in_default-refused.not-Some in
    let grown = c.in_ok-swap.ensures.keeps in
    let tree = c.in_ok-swap.ensures.ok.is ∙ ap (λ x. swapped (pairs_at now x) (tree_at now c.args.e)) c.deref-2.ensures.value ∙ ap (swapped ps) (was.keeps.trees.same c.args.e c.requires.e_in) in
    came_end w plain E (auxs_at before c.args.met.now.auxs.items) as_ ps was.came (end ∙ ap last_of none)
    ∙ ap (λ (t : Tree). found (t, as_)) (sym tree)
    ∙ ap (λ (x : List Aux). found (tree_at after c.in_ok-swap.field-0, x)) (sym (auxs_stay now after grown c.unmet.met.auxs.items was.auxs_in))
