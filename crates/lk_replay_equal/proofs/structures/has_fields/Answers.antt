use Rattle.std.proofs.Common.{◌≡◌, Some, None, map, drop, option_map, ap, refl, sym, ◌∙◌}
use Rattle.std.proofs.lemmas.List.{drop-map}
use Rattle.lk_tree.specs.Spine.{args as args_of}
use Rattle.lk_written.specs.Equal.{fields_equal}
use Rattle.lk_store.specs.Contents.{name_at, tree_at}
use Rattle.lk_premises.specs.Claims.{claims_at}
use Rattle.lk_replay_equal.specs.Structures.{fields_after}
use Rattle.lk_replay_equal.proofs.structures.has_fields.Goals as goal

pub returns-in-Some : goal.returns-in-Some
unfolding fields_after
returns-in-Some g c =
    let d = g.L.Terms.contents c.args.looks.now in
    let t = tree_at d in
    let n = c.args.parameters in
    let behind = c.behind_parameters-fields.ensures ∙ ap (drop n) c.deref.ensures.value in
    let same = ap (map t) behind ∙ sym (drop-map t n c.in_ok-values.values.items) ∙ ap (drop n) c.in_ok-values.ensures.are in
    let fields = fields_equal (claims_at d c.args.claims.now) c.args.left.now (name_at d c.args.inductive) (t c.args.a) 0 in
    let read : fields (drop n (args_of (t c.args.b))) ≡ Some c.in-Some.rest.now =
    ap fields (sym same) ∙ c.in_ok-rest.ensures.ok ∙ ap (option_map (λ r. r.now)) c.in-Some.is in
    rw read (record { keeps = c.in_ok-rest.ensures.keeps; stays = c.in_ok-rest.ensures.stays; ok = c.ended.ensures })

pub returns : goal.returns
unfolding fields_after
returns g c =
    let d = g.L.Terms.contents c.args.looks.now in
    let t = tree_at d in
    let n = c.args.parameters in
    let behind = c.behind_parameters-fields.ensures ∙ ap (drop n) c.deref.ensures.value in
    let same = ap (map t) behind ∙ sym (drop-map t n c.in_ok-values.values.items) ∙ ap (drop n) c.in_ok-values.ensures.are in
    let fields = fields_equal (claims_at d c.args.claims.now) c.args.left.now (name_at d c.args.inductive) (t c.args.a) 0 in
    let read : fields (drop n (args_of (t c.args.b))) ≡ None =
    ap fields (sym same) ∙ c.in_ok-rest.ensures.ok ∙ ap (option_map (λ r. r.now)) c.in-None.is in
    rw read (record { keeps = c.in_ok-rest.ensures.keeps; stays = c.in_ok-rest.ensures.stays; ok = refl })
