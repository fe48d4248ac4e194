use Rattle.std.proofs.Common.{◌≡◌, ℕ, ◌<◌, ◌++◌, List, length, sym, subst, arith, rules}
use Rattle.lk_env.specs.Units.{library_of}
use Rattle.lk_session.specs.Texts.{bytes_of, units_in, IsFaultless}
use Rattle.lk_session.proofs.Reading.{read_one, text_faultless}
use Rattle.lk_session.proofs.list_reader.ListReader.catch_up.Goals as goal

pub add-requires-clause-text : goal.add-requires-clause-text
add-requires-clause-text g c =
    let text : c.as_slice.result.now ≡ bytes_of c.index-texts-k.result = search rules in
    let lt : c.loop-k.k < length c.args.texts.now = search rules in
    subst (λ (x : List ℕ). IsFaultless g.T.Reads.stated x) (sym text) (text_faultless g.T.Reads.stated c.args.texts.now c.loop-k.k c.index-texts-k.result c.requires.faultless lt c.index-texts-k.is)

pub loop-k-preserved : goal.loop-k-preserved
loop-k-preserved g c =
    let text : c.as_slice.result.now ≡ bytes_of c.index-texts-k.result = search rules in
    let lt : c.loop-k.k < length c.args.texts.now = search rules in
    let units = subst (λ (x : List ℕ). library_of c.add.new.self.library ≡ library_of c.loop-k.self.library ++ units_in g.T.Reads.stated x) text c.in_ok-add.ensures.units in
    let count = c.in_ok-add.ensures.count in
    let before = c.loop-k.invariant.0 in (
      omega arith,
      c.in_ok-add.ensures.budgets,
      λ list h e. read_one g.T.Reads.stated c.args.texts.now list c.args.self.now.count c.loop-k.k c.index-texts-k.result c.loop-k.self c.add.new.self h.within e lt c.index-texts-k.is before count units c.in_ok-add.ensures.budgets (c.loop-k.invariant.2 list h e),
    )
