use Rattle.std.proofs.Common.{◌≡◌, ◌++◌, List, length, map, sym, ap, ◌∙◌}
use Rattle.std.proofs.lemmas.List.{length-map}
use Rattle.lk_env.specs.Units.{type_at}
use Rattle.lk_inductive.specs.Enlarged.{Aux}
use Rattle.lk_inductive.specs.Nested.{other_count}
use Rattle.lk_questions.specs.Program.{done}
use Rattle.lk_tree.specs.Tree.{Tree}
use Rattle.lk_store.specs.Contents.{name_at, list_at, tree_at}
use Rattle.lk_auxiliary.specs.Auxiliaries.{aux_at, auxs_at}
use Rattle.lk_auxiliary.specs.Settings.{setting_at}
use Rattle.lk_auxiliary.proofs.MadeParts.{made_to, joined_known, joined_are, applied_is}
use Rattle.lk_auxiliary.proofs.made.make.Goals as goal

pub returns-clause-known : goal.returns-clause-known
returns-clause-known g c =
    let before = g.T.Terms.contents c.args.terms.now in
    let mid = g.T.Terms.contents c.family_made.new.terms in
    let after = g.T.Terms.contents c.auxiliary_applied.new.terms in
    joined_known before mid after c.in_ok-made.ensures.keeps c.in_ok-applied.ensures.keeps c.args.auxs.now.items c.in_ok-made.made.items c.join.new.auxs.items c.in_ok-join.ensures c.requires.auxs_in c.in_ok-made.ensures.known

pub returns-clause-made : goal.returns-clause-made
returns-clause-made g c =
    let before = g.T.Terms.contents c.args.terms.now in
    let mid = g.T.Terms.contents c.family_made.new.terms in
    let after = g.T.Terms.contents c.auxiliary_applied.new.terms in
    let first = c.in_ok-made.ensures.keeps in
    let second = c.in_ok-applied.ensures.keeps in
    let s = setting_at before c.args.setting.now in
    let old = c.args.auxs.now.items in
    let made = c.in_ok-made.made.items in
    let family = c.args.family.now in
    let J = name_at before c.args.of.now.name in
    let count_is : c.count_of-count.result ≡ length (auxs_at before old) = c.count_of-count.ensures ∙ ap length c.deref.ensures.value ∙ sym (length-map old (aux_at before)) in
    let others_is = c.in_ok-others.ensures ∙ ap (λ ts. other_count J (map (type_at before) ts)) c.deref-2.ensures.value in
    made_to s (auxs_at before old) (auxs_at mid made) J (list_at before c.args.of.now.list) (map (tree_at before) c.args.of.now.arguments.now) (map (type_at before) family.types.items) (type_at before family.own)
    c.count_of-count.result c.in_ok-others.others _ count_is others_is (sym (length-map c.args.setting.now.parameters.now (tree_at before))) (sym c.has_room.ensures ∙ c.if-not-has_room.false) c.in_ok-made.ensures.family
    ∙ ap (λ (r : Tree). done (r, auxs_at before old ++ auxs_at mid made)) (sym (applied_is before mid after first second c.args.setting.now c.in_ok-applied.applied c.count_of-count.result (length (auxs_at before old)) c.requires.setting_in count_is c.in_ok-applied.ensures.ok.is))
    ∙ ap (λ (as_ : List Aux). done (tree_at after c.in_ok-applied.applied, as_)) (sym (joined_are before mid after first second old made c.join.new.auxs.items c.in_ok-join.ensures c.requires.auxs_in c.in_ok-made.ensures.known))
