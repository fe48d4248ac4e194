use Rattle.std.proofs.Common.{rules, ◌≡◌, ◌+◌, ◌-◌, suc, option_map, ap, sym, ◌∙◌, arith}
use Rattle.lk_store.specs.Contents.{name_at, tree_at}
use Rattle.lk_store.proofs.Extending.{Extends-trans}
use Rattle.lk_premises.specs.Claims.{claims_at}
use Rattle.lk_premises.specs.Reading.{read_at}
use Rattle.lk_premises.proofs.Staying.{claims_known, claims_same}
use Rattle.lk_replay_types.specs.Fields.{last_read, field_once}
use Rattle.lk_replay_types.proofs.FieldSteps.{field_on, field_stops, field_ends}
use Rattle.lk_replay_types.proofs.fields.field_type.Goals as goal

pub fields-preserved : goal.fields-preserved
fields-preserved g c =
    let start = g.L.Terms.contents c.args.looks.now in
    let before = g.L.Terms.contents c.fields.looks in
    let after = g.L.Terms.contents c.next_field.new.looks in
    let was = c.fields.invariant in
    let once = c.in_ok-next.ensures in
    let ps = claims_at start c.args.claims.now in
    let S = name_at start c.args.of.structure in
    let s = tree_at start c.args.of.subject in
    let r = tree_at before c.fields.at.tree in
    let claims = claims_same start before was.grown c.args.claims.now c.requires.claims_in in
    let names = was.grown.names.same c.args.of.structure c.requires.structure_in in
    let subject = was.grown.trees.same c.args.of.subject c.requires.subject_in in
    let S' = name_at before c.args.of.structure in
    let s' = tree_at before c.args.of.subject in
    let js = c.fields.at.after.now in
    let moved : field_once (claims_at before c.args.claims.now) js S' s' c.args.prop c.fields.number r ≡ field_once ps js S s c.args.prop c.fields.number r =
    ap (λ x. field_once x js S' s' c.args.prop c.fields.number r) claims
    ∙ ap (λ x. field_once ps js x s' c.args.prop c.fields.number r) names
    ∙ ap (λ x. field_once ps js S x c.args.prop c.fields.number r) subject in
    let read : field_once ps js S s c.args.prop c.fields.number r ≡ option_map (read_at after) c.in_ok-next.field-0 = sym moved ∙ once.ok in
    let read_some = rw c.in-Some.is at read in
    let next : c.fields.number + 1 ≡ suc c.fields.number = omega arith in
    let less : c.args.field - c.fields.number ≡ suc (c.args.field - (c.fields.number + 1)) = omega arith in
    let on = field_on ps S s c.args.prop c.fields.number (c.fields.number + 1) (c.args.field - c.fields.number) (c.args.field - (c.fields.number + 1)) c.fields.at.after.now r (read_at after c.in-Some.next) next less read_some in
    record {
      grown = Extends-trans _ _ _ was.grown once.keeps;
      stays = once.stays ∙ was.stays;
      claims_in = claims_known before after once.keeps c.args.claims.now was.claims_in;
      structure_in = search rules;
      subject_in = search rules;
      tree_in = search rules;
      is = on ∙ was.is;
    }

pub returns-in-None : goal.returns-in-None
returns-in-None g c =
    let start = g.L.Terms.contents c.args.looks.now in
    let before = g.L.Terms.contents c.fields.looks in
    let after = g.L.Terms.contents c.next_field.new.looks in
    let was = c.fields.invariant in
    let once = c.in_ok-next.ensures in
    let ps = claims_at start c.args.claims.now in
    let S = name_at start c.args.of.structure in
    let s = tree_at start c.args.of.subject in
    let r = tree_at before c.fields.at.tree in
    let claims = claims_same start before was.grown c.args.claims.now c.requires.claims_in in
    let names = was.grown.names.same c.args.of.structure c.requires.structure_in in
    let subject = was.grown.trees.same c.args.of.subject c.requires.subject_in in
    let S' = name_at before c.args.of.structure in
    let s' = tree_at before c.args.of.subject in
    let js = c.fields.at.after.now in
    let moved : field_once (claims_at before c.args.claims.now) js S' s' c.args.prop c.fields.number r ≡ field_once ps js S s c.args.prop c.fields.number r =
    ap (λ x. field_once x js S' s' c.args.prop c.fields.number r) claims
    ∙ ap (λ x. field_once ps js x s' c.args.prop c.fields.number r) names
    ∙ ap (λ x. field_once ps js S x c.args.prop c.fields.number r) subject in
    let read : field_once ps js S s c.args.prop c.fields.number r ≡ option_map (read_at after) c.in_ok-next.field-0 = sym moved ∙ once.ok in
    let read_none = rw c.in-None.is at read in
    let less : c.args.field - c.fields.number ≡ suc (c.args.field - (c.fields.number + 1)) = omega arith in
    record {
      keeps = Extends-trans _ _ _ was.grown once.keeps;
      stays = once.stays ∙ was.stays;
      known = tt;
      ok = sym was.is
          ∙ field_stops ps S s c.args.prop c.fields.number (c.args.field - c.fields.number) (c.args.field - (c.fields.number + 1)) c.fields.at.after.now r less read_none;
    }

pub returns : goal.returns
returns g c =
    let start = g.L.Terms.contents c.args.looks.now in
    let before = g.L.Terms.contents c.fields.looks in
    let was = c.fields.invariant in
    let ps = claims_at start c.args.claims.now in
    let S = name_at start c.args.of.structure in
    let s = tree_at start c.args.of.subject in
    let r = tree_at before c.fields.at.tree in
    let claims = claims_same start before was.grown c.args.claims.now c.requires.claims_in in
    let last : last_read ps c.fields.at.after.now c.args.prop r ≡ option_map (read_at before) c.last_field.result = rw claims at c.last_field.ensures.read in
    let none : c.args.field - c.fields.number ≡ 0 = omega arith in
    record {
      keeps = was.grown;
      stays = was.stays;
      known = c.last_field.ensures.known;
      ok = sym was.is ∙ field_ends ps S s c.args.prop c.fields.number (c.args.field - c.fields.number) c.fields.at.after.now r none ∙ last;
    }
