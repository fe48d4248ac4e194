use Rattle.std.proofs.Common.{rules, ◌≡◌, ◌<◌, ℕ, ◌-◌, suc, ◌∷◌, length, map, option_map, ap, sym, ◌∙◌, arith}
use Rattle.std.proofs.lemmas.List.Elements.{All-head, All-rest, All-same}
use Rattle.lk_tree.specs.Tree.{proj}
use Rattle.lk_written.specs.Premises.{equal}
use Rattle.lk_written.specs.Equal.{fields_equal}
use Rattle.lk_store.specs.Contents.{name_at, tree_at}
use Rattle.lk_store.proofs.Extending.{Extends-trans}
use Rattle.lk_premises.specs.Claims.{claims_at}
use Rattle.lk_premises.proofs.Staying.{claims_known, claims_same}
use Rattle.lk_replay_equal.proofs.FieldReads.{fields_on, fields_stop}
use Rattle.lk_replay_equal.proofs.structures.equal_each.Goals as goal

pub fields-preserved : goal.fields-preserved
fields-preserved g c =
    let start = g.T.Terms.contents c.args.terms.now in
    let before = g.T.Terms.contents c.fields.terms in
    let after = g.T.Terms.contents c.equal_field.new.terms in
    let was = c.fields.invariant in
    let once = c.in_ok-after.ensures in
    let ps = claims_at start c.args.claims.now in
    let J = name_at start c.args.inductive in
    let a = tree_at start c.args.a in
    let first = c.in-Some.field.now in
    let more = c.in-Some.more.now in
    let split = c.in-Some.ensures.cases.0 in
    let all = All-same (λ (x : ℕ). x < length start.trees) (first ∷ more) c.fields.rest.now (sym split) was.fields_in in
    let here : first < length start.trees = All-head (λ (x : ℕ). x < length start.trees) first more all in
    let j = length c.args.fields.now - length c.fields.rest.now in
    let claims = claims_same start before was.grown c.args.claims.now c.requires.claims_in in
    let names = was.grown.names.same c.args.inductive c.requires.inductive_in in
    let whole = was.grown.trees.same c.args.a c.requires.a_in in
    let field = was.grown.trees.same first here in
    let js = c.fields.at.now in
    let moved : equal (claims_at before c.args.claims.now) js (proj (name_at before c.args.inductive) j (tree_at before c.args.a)) (tree_at before first) ≡ equal ps js (proj J j a) (tree_at start first) =
    ap (λ z. equal z js (proj (name_at before c.args.inductive) j (tree_at before c.args.a)) (tree_at before first)) claims
    ∙ ap (λ n. equal ps js (proj n j (tree_at before c.args.a)) (tree_at before first)) names
    ∙ ap (λ t. equal ps js (proj J j t) (tree_at before first)) whole
    ∙ ap (equal ps js (proj J j a)) field in
    let read : equal ps js (proj J j a) (tree_at start first) ≡ option_map (λ r. r.now) c.in_ok-after.field-0 = sym moved ∙ once.ok in
    let read_some = rw c.in-Some-2.is at read in
    let count : length c.fields.rest.now ≡ suc (length more) = ap length split in
    let few = was.few in
    let next : length c.args.fields.now - length more ≡ suc j = omega arith in
    record {
      grown = Extends-trans _ _ _ was.grown once.keeps;
      stays = once.stays ∙ was.stays;
      claims_in = claims_known before after once.keeps c.args.claims.now was.claims_in;
      inductive_in = search rules;
      a_in = search rules;
      fields_in = All-rest (λ (x : ℕ). x < length start.trees) first more c.fields.rest.now split was.fields_in;
      few = omega arith;
      is = fields_on ps J a js j (tree_at start first) (map (tree_at start) more) (length c.args.fields.now - length more) c.in-Some-2.after.now next read_some
          ∙ ap (λ zs. fields_equal ps js J a j (map (tree_at start) zs)) (sym split) ∙ was.is;
    }

pub returns-in-None : goal.returns-in-None
returns-in-None g c =
    let start = g.T.Terms.contents c.args.terms.now in
    let before = g.T.Terms.contents c.fields.terms in
    let was = c.fields.invariant in
    let once = c.in_ok-after.ensures in
    let ps = claims_at start c.args.claims.now in
    let J = name_at start c.args.inductive in
    let a = tree_at start c.args.a in
    let first = c.in-Some.field.now in
    let more = c.in-Some.more.now in
    let split = c.in-Some.ensures.cases.0 in
    let all = All-same (λ (x : ℕ). x < length start.trees) (first ∷ more) c.fields.rest.now (sym split) was.fields_in in
    let here : first < length start.trees = All-head (λ (x : ℕ). x < length start.trees) first more all in
    let j = length c.args.fields.now - length c.fields.rest.now in
    let claims = claims_same start before was.grown c.args.claims.now c.requires.claims_in in
    let names = was.grown.names.same c.args.inductive c.requires.inductive_in in
    let whole = was.grown.trees.same c.args.a c.requires.a_in in
    let field = was.grown.trees.same first here in
    let js = c.fields.at.now in
    let moved : equal (claims_at before c.args.claims.now) js (proj (name_at before c.args.inductive) j (tree_at before c.args.a)) (tree_at before first) ≡ equal ps js (proj J j a) (tree_at start first) =
    ap (λ z. equal z js (proj (name_at before c.args.inductive) j (tree_at before c.args.a)) (tree_at before first)) claims
    ∙ ap (λ n. equal ps js (proj n j (tree_at before c.args.a)) (tree_at before first)) names
    ∙ ap (λ t. equal ps js (proj J j t) (tree_at before first)) whole
    ∙ ap (equal ps js (proj J j a)) field in
    let read : equal ps js (proj J j a) (tree_at start first) ≡ option_map (λ r. r.now) c.in_ok-after.field-0 = sym moved ∙ once.ok in
    let read_none = rw c.in-None.is at read in
    record {
      keeps = Extends-trans _ _ _ was.grown once.keeps;
      stays = once.stays ∙ was.stays;
      ok = sym was.is
          ∙ ap (λ zs. fields_equal ps js J a j (map (tree_at start) zs)) split
          ∙ fields_stop ps J a js j (tree_at start first) (map (tree_at start) more) read_none;
    }
