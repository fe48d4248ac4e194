use Rattle.std.proofs.Common.{rules, arith, ◌≡◌, suc, true, false, [], ◌∷◌, ◌++◌, length, map, Some, sym, ap, ◌∙◌}
use Rattle.std.proofs.lemmas.List.{map-append, length-append}
use Rattle.std.proofs.lemmas.List.Elements.{All-head, All-rest, All-same, All-push}
use Rattle.lk_questions.specs.Tests.{passes}
use Rattle.lk_written.specs.Line.{claim_of}
use Rattle.lk_written.specs.Section.{line_holds, claims_by, line_at_fault}
use Rattle.lk_store.proofs.Extending.{Extends-trans}
use Rattle.lk_laws.proofs.OneByOne.{none_left}
use Rattle.lk_trace.specs.Meaning.{line_of, IsLineIn}
use Rattle.lk_fine.proofs.LookedThrough.{fit_stays}
use Rattle.lk_premises.specs.Claims.{claim_at, claims_at, IsClaimIn}
use Rattle.lk_premises.proofs.Staying.{claims_known, claims_same}
use Rattle.lk_replay.specs.Lines.{line_read}
use Rattle.lk_replay.proofs.LineForms.{line_is, claims_on, fault_on, fault_here}
use Rattle.lk_trace.proofs.Steady.{line_same, line_known}
use Rattle.lk_replay.proofs.lines.read_lines.Goals as goal

pub lines-preserved : goal.lines-preserved
lines-preserved g c =
    let start = g.L.Terms.contents c.args.looks.now in
    let before = g.L.Terms.contents c.lines.looks in
    let after = g.L.Terms.contents c.holds.new.looks in
    let w = (g.L.Looks.sight (g.L.Terms.rest c.args.looks.now)).basis.place in
    let seen = (g.L.Looks.sight (g.L.Terms.rest c.lines.looks)).basis.place in
    let was = c.lines.invariant in
    let read = c.in_ok-holds.ensures in
    let line = c.in-Some.line.now in
    let more = c.in-Some.more.now in
    let split = c.in-Some.ensures.cases.0 in
    let ks = c.lines.claims.items in
    let ps = claims_at before ks in
    let l = line_of start line in
    let all = All-same (IsLineIn start) (line ∷ more) c.lines.rest.now (sym split) was.lines_in in
    let here = All-head (IsLineIn start) line more all in
    let grown = Extends-trans start before after was.grown read.tests.keeps in
    let held : line_holds w ps l ≡ true =
    sym (line_is w ps l)
    ∙ ap (λ z. passes (line_read w ps z)) (sym (line_same start before was.grown line here))
    ∙ ap (λ z. passes (line_read z.place ps (line_of before line))) (sym was.stays)
    ∙ ap (λ zs. passes (line_read seen (claims_at before zs) (line_of before line))) (sym c.deref.ensures.value)
    ∙ sym read.tests.ok ∙ c.if-not-branch.false in
    let k = c.claim_of.result in
    let pushed : c.push.new.self.items ≡ ks ++ k ∷ [] = search rules in
    let stated : claims_at after (ks ++ k ∷ []) ≡ ps ++ claim_of l ∷ [] =
    map-append (claim_at after) ks (k ∷ [])
    ∙ ap (λ zs. zs ++ claim_at after k ∷ []) (claims_same before after read.tests.keeps ks was.claims_in)
    ∙ ap (λ z. ps ++ z ∷ []) (c.claim_of.ensures.is after ∙ ap claim_of (line_same start after grown line here)) in
    let longer : length (ks ++ k ∷ []) ≡ suc (length ks) = length-append ks (k ∷ []) ∙ search rules in
    rw pushed
    (record {
      grown = grown;
      stays = read.tests.stays ∙ was.stays;
      claims_in = All-push (IsClaimIn after) ks k (claims_known before after read.tests.keeps ks was.claims_in) (c.claim_of.ensures.known after (line_known start after grown line here));
      lines_in = All-rest (IsLineIn start) line more c.lines.rest.now split was.lines_in;
      fit = fit_stays before after c.holds.new.met read.tests.keeps read.met;
      claims = ap (λ zs. claims_by w zs (map (line_of start) more)) stated
          ∙ sym (claims_on w ps l (map (line_of start) more) held)
          ∙ ap (λ zs. claims_by w ps (map (line_of start) zs)) (sym split) ∙ was.claims;
      fault = ap (λ zs. line_at_fault w zs (length (ks ++ k ∷ [])) (map (line_of start) more)) stated
          ∙ ap (λ n. line_at_fault w (ps ++ claim_of l ∷ []) n (map (line_of start) more)) longer
          ∙ sym (fault_on w ps l (map (line_of start) more) held (length ks))
          ∙ ap (λ zs. line_at_fault w ps (length ks) (map (line_of start) zs)) (sym split) ∙ was.fault;
    })

pub returns-then-not-branch : goal.returns-then-not-branch
returns-then-not-branch g c =
    let start = g.L.Terms.contents c.args.looks.now in
    let before = g.L.Terms.contents c.lines.looks in
    let after = g.L.Terms.contents c.holds.new.looks in
    let w = (g.L.Looks.sight (g.L.Terms.rest c.args.looks.now)).basis.place in
    let seen = (g.L.Looks.sight (g.L.Terms.rest c.lines.looks)).basis.place in
    let was = c.lines.invariant in
    let read = c.in_ok-holds.ensures in
    let line = c.in-Some.line.now in
    let more = c.in-Some.more.now in
    let split = c.in-Some.ensures.cases.0 in
    let ks = c.lines.claims.items in
    let ps = claims_at before ks in
    let l = line_of start line in
    let all = All-same (IsLineIn start) (line ∷ more) c.lines.rest.now (sym split) was.lines_in in
    let here = All-head (IsLineIn start) line more all in
    let lost : line_holds w ps l ≡ false =
    sym (line_is w ps l)
    ∙ ap (λ z. passes (line_read w ps z)) (sym (line_same start before was.grown line here))
    ∙ ap (λ z. passes (line_read z.place ps (line_of before line))) (sym was.stays)
    ∙ ap (λ zs. passes (line_read seen (claims_at before zs) (line_of before line))) (sym c.deref.ensures.value)
    ∙ sym read.tests.ok ∙ c.if-not-branch.true in
    let count : length ks ≡ c.lines.claims.len = omega (arith, c.lines.claims.ok.0) in
    record {
      keeps = Extends-trans start before after was.grown read.tests.keeps;
      stays = read.tests.stays ∙ was.stays;
      ok = rw c.len.ensures
          (sym was.fault ∙ ap (λ zs. line_at_fault w ps (length ks) (map (line_of start) zs)) split
          ∙ fault_here w ps l (map (line_of start) more) lost (length ks) ∙ ap Some count);
    }

pub returns : goal.returns
returns g c =
    let start = g.L.Terms.contents c.args.looks.now in
    let before = g.L.Terms.contents c.lines.looks in
    let w = (g.L.Looks.sight (g.L.Terms.rest c.args.looks.now)).basis.place in
    let was = c.lines.invariant in
    let ks = c.lines.claims.items in
    let ps = claims_at before ks in
    let none = none_left (line_of start) c.lines.rest.now c.in_default.ensures.cases in
    record {
      keeps = was.grown;
      stays = was.stays;
      ok = (
        was.claims_in,
        sym was.claims ∙ ap (claims_by w ps) none,
        sym was.fault ∙ ap (line_at_fault w ps (length ks)) none,
      );
    }
