use Rattle.std.proofs.Common.{rules, ◌≡◌, true, ◌+◌, nat_eq, nat_lt, length, map, ap, subst, ◌∙◌, arith}
use Rattle.std.specs.Prelude.{IfOk, Option}
use Rattle.lk_tree.specs.Tree.{Name, Tree}
use Rattle.lk_tree.specs.Levels.{put_levels}
use Rattle.lk_tree.specs.Spine.{args}
use Rattle.lk_questions.specs.Tests.{passes}
use Rattle.lk_store.specs.Contents.{name_at, list_at, tree_at}
use Rattle.lk_store.proofs.Extending.{Extends-trans}
use Rattle.lk_subst.specs.Numbers.{trees-steady}
use Rattle.lk_premises.specs.Claims.{claims_at}
use Rattle.lk_premises.proofs.Staying.{claims_same}
use Rattle.lk_structure.proofs.Fitting.{fits_is}
use Rattle.lk_replay_types.specs.Subjects.{Projection, sort_read}
use Rattle.lk_replay_types.specs.Projections.{projection_at}
use Rattle.lk_replay_types.proofs.SubjectKinds.{three_hold}
use Rattle.lk_replay_types.proofs.projections.with_structure.Goals as goal

pub returns-in-Some : goal.returns-in-Some
returns-in-Some g c ind k h =
    let a = c.args in
    let start = g.L.Terms.contents a.looks.now in
    let after = g.L.Terms.contents c.at_levels.new.self in
    let grown = c.at_levels.ensures.keeps in
    let arguments = c.in_ok-arguments.arguments.items in
    let T = tree_at start a.own in
    let ls = list_at start a.levels in
    let ps = claims_at start a.claims.now in
    let p = projection_at start a.p in
    let A = tree_at start a.ty in
    let long : c.len.result ≡ length arguments = omega (arith, c.in_ok-arguments.arguments.ok.0) in
    let told = fits_is start arguments (args T) c.len.result a.p.field a.structure.parameters ind.parameters a.structure.indices ind.indices a.structure.fields k.fields c.fits.result true
    c.in_ok-arguments.ensures long h.parameters_are h.indices_are h.fields_are c.fits.ensures (search rules) in
    let leveled = rw c.in-Some.is at (c.in_ok-constructor.ensures.ok h.entry h.entry_is) in
    let counts : nat_eq (length ls) (length k.levels) ≡ true = rw h.levels_are at leveled.0 in
    let whole = three_hold (nat_eq (length (args T)) (ind.parameters + ind.indices)) (nat_eq (length ls) (length k.levels)) (nat_lt a.p.field k.fields) told counts in
    let stated = c.requires.over.trees.same a.structure.constructor.stated c.requires.structure_in ∙ h.type_is in
    let made : tree_at after c.in-Some.constructor ≡ put_levels k.levels ls k.type =
    leveled.1.is ∙ ap (λ x. put_levels x ls (tree_at start a.structure.constructor.stated)) h.levels_are ∙ ap (put_levels k.levels ls) stated in
    let claims = claims_same start after grown a.claims.now c.requires.claims_in in
    let own = grown.trees.same a.own c.requires.own_in in
    let ty = grown.trees.same a.ty c.requires.ty_in in
    let bs : map (tree_at after) c.deref.result.now ≡ args T = ap (map (tree_at after)) c.deref.ensures.value ∙ trees-steady start after arguments grown c.in_ok-arguments.ensures.known ∙ c.in_ok-arguments.ensures.are in
    let names = grown.names.same a.p.structure c.requires.p_in.structure_in in
    let subject = grown.trees.same a.p.subject c.requires.p_in.subject_in in
    let same : projection_at after a.p ≡ p =
    ap (λ (n : Name). record { structure = n; field = a.p.field; subject = tree_at after a.p.subject }) names
    ∙ ap (λ (t : Tree). record { structure = name_at start a.p.structure; field = a.p.field; subject = t }) subject in
    let t = c.with_sort.ensures in
    let r = tree_at after c.in-Some.constructor in
    let js = a.left.now in
    let n = a.structure.parameters in
    let moved : sort_read (claims_at after a.claims.now) js (tree_at after a.own) (map (tree_at after) c.deref.result.now) n (projection_at after a.p) r (tree_at after a.ty)
    ≡ sort_read ps js T (args T) ind.parameters p (put_levels k.levels ls k.type) A =
    ap (λ x. sort_read x js (tree_at after a.own) (map (tree_at after) c.deref.result.now) n (projection_at after a.p) r (tree_at after a.ty)) claims
    ∙ ap (λ x. sort_read ps js x (map (tree_at after) c.deref.result.now) n (projection_at after a.p) r (tree_at after a.ty)) own
    ∙ ap (λ x. sort_read ps js T x n (projection_at after a.p) r (tree_at after a.ty)) bs
    ∙ ap (λ x. sort_read ps js T (args T) x (projection_at after a.p) r (tree_at after a.ty)) h.parameters_are
    ∙ ap (λ (x : Projection). sort_read ps js T (args T) ind.parameters x r (tree_at after a.ty)) same
    ∙ ap (λ x. sort_read ps js T (args T) ind.parameters p x (tree_at after a.ty)) made
    ∙ ap (sort_read ps js T (args T) ind.parameters p (put_levels k.levels ls k.type)) ty in
    record {
      keeps = Extends-trans _ _ _ grown t.keeps;
      stays = t.stays ∙ c.at_levels.ensures.rest;
      ok = rw whole (subst (λ (o : Option (Unit {0})). IfOk c.with_sort.result (λ b. b ≡ passes o)) moved t.ok);
    }
