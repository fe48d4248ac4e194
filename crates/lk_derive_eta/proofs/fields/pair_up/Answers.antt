use Rattle.std.proofs.Common.{rules, ◌≡◌, ◌<◌, ◌++◌, ◌∷◌, [], ℕ, suc, length, ap, ◌∙◌, arith}
use Rattle.std.proofs.lemmas.List.{length-append}
use Rattle.std.proofs.lemmas.List.Elements.{All-push}
use Rattle.lk_tree.specs.Tree.{proj}
use Rattle.lk_store.specs.Contents.{name_at, tree_at}
use Rattle.lk_store.proofs.Extending.{Extends-trans}
use Rattle.lk_ask.specs.declared.sheet.Pair.{Pair}
use Rattle.lk_ask.specs.Sheets.{IsKnownPair}
use Rattle.lk_ask.proofs.Sheets.{grown, pairs_known}
use Rattle.lk_eta.proofs.Pairing.{all_last, all_others, lefts_next, rights_next}
use Rattle.lk_derive_eta.proofs.fields.pair_up.Goals as goal

pub fields-preserved : goal.fields-preserved
fields-preserved g c =
    let before = g.T.Terms.contents c.args.terms.now in
    let now = g.T.Terms.contents c.fields.terms in
    let after = g.T.Terms.contents c.make.new.self in
    let was = c.fields.invariant in
    let left = c.fields.left.now in
    let others = c.in-Some.others.now in
    let n = c.in-Some.field.now in
    let split = c.in-Some.ensures.cases.0 in
    let x = c.in_ok-projection.ensures.keeps in
    let whole = Extends-trans before now after was.keeps x in
    let items = c.fields.items.items in
    let p : Pair ℕ = record { left = c.in_ok-projection.projection; right = n } in
    let pushed : c.push.new.self.items ≡ items ++ p ∷ [] = search rules in
    let n_in : n < length before.trees = all_last (λ e. e < length before.trees) left others n split was.left_in in
    let made = c.in_ok-projection.ensures.ok in
    let count : length left ≡ suc (length others) = let l = ap length split ∙ length-append others (n ∷ []) in omega arith in
    let J = name_at before c.args.inductive in
    let A = tree_at before c.args.a in
    let is : tree_at after c.in_ok-projection.projection ≡ proj J (length others) A =
    made.is ∙ ap (λ m. proj m (length others) (tree_at now c.args.a)) (was.keeps.names.same c.args.inductive c.requires.inductive_in) ∙ ap (proj J (length others)) (was.keeps.trees.same c.args.a c.requires.a_in) in
    rw pushed (record {
      keeps = whole;
      same_rest = c.in_ok-projection.ensures.rest ∙ was.same_rest;
      left_in = all_others (λ e. e < length before.trees) left others n split was.left_in;
      pairs_in = All-push (IsKnownPair (length after.trees)) items p (pairs_known x items was.pairs_in) (record { left_in = made.known; right_in = grown whole n n_in });
      lefts_are = lefts_next x items was.pairs_in p J A (length left) (length others) count was.lefts_are is;
      rights_are = rights_next x items was.pairs_in p (tree_at before) left others n _ split (whole.trees.same n n_in) was.rights_are;
    })
