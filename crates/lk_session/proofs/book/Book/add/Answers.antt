use Rattle.std.proofs.Common.{◌≡◌, ℕ, ◌+◌, ◌<◌, ◌≤◌, ◌^◌, List, length, Vec, ◌∙◌, ap, sym, subst, arith}
use Rattle.std.specs.declared.alloc.Global.{Global}
use Rattle.atomic_table.specs.Table.{Me}
use Rattle.lk_session.specs.declared.view.Submission.{Submission}
use Rattle.lk_session.specs.declared.view.View.{View}
use Rattle.lk_session.specs.Rule.{times}
use Rattle.lk_session.specs.Seats.{known, known_of}
use Rattle.lk_session.specs.Texts.{bytes_of, units_of, IsFaultless}
use Rattle.lk_session.proofs.Prefixes.{prefix_length}
use Rattle.lk_session.proofs.Adding.{length-marks, added_book, book_more, behind_more, new_place}
use Rattle.lk_session.proofs.book.Book.add.Goals as goal

pub invariant_of-self-2 : goal.invariant_of-self-2
invariant_of-self-2 g c =
    let stated = g.T.Reads.stated in
    let call = g.N.Call.call in
    let b = c.self.invariant in
    let seat = added_book c.self.inside.seat.me c.meet.new.book.me c.count-place.new.book.me c.part.new.book.me c.unwrap-seat.result.me.0 call c.count-place.result b.view c.meet.ensures.met c.count-place.ensures.counted c.part.ensures.left in
    let units : c.self.inside.units ≡ length (units_of stated c.args.self.now) = b.units_are ∙ ap (λ (l : List Submission). length (units_of stated l)) c.self.view_is in
    let few : c.self.inside.units + c.args.offer.count ≤ 65536 = omega (arith, c.requires.few) in
    book_more g.B.Room.table stated c.self.inside.seat c.part.new.book c.self.inside.texts.items c.reserve.new.self.items c.push_reserved.new.self.items c.self.inside.marks.items c.reserve-2.new.self.items c.push_reserved-2.new.self.items
    c.self.inside.units c.args.offer.tag c.args.offer.count call c.args.offer.text
    b (c.part.ensures.of.0 ∙ (c.count-place.ensures.of ∙ (c.meet.ensures.of ∙ b.of))) seat
    (ap (λ (s : Submission). s.tag) c.requires.call) (ap (λ (s : Submission). s.text) c.requires.call) c.requires.offer.count c.requires.offer.faultless few
    c.reserve.ensures.items c.push_reserved.ensures.items c.reserve-2.ensures.items c.push_reserved-2.ensures.items

pub returns-clause-texts : goal.returns-clause-texts
returns-clause-texts g c =
    let stated = g.T.Reads.stated in
    let seen = (known c.self.inside.seat).seen in
    let clone = c.in_ok-try_clone.field-0 in
    let same : bytes_of clone ≡ bytes_of c.args.offer.text = ap (λ (v : Vec ℕ Global). v.items) c.in_ok-try_clone.ensures in
    let here : length seen ≡ length c.args.self.now = ap length c.self.view_is in
    let met = prefix_length (known c.unwrap-seat.result).seen seen c.meet.ensures.order in
    let is : known c.unwrap-seat.result ≡ c.args.caller.now = ap known_of (sym c.unwrap-seat.ensures ∙ c.take.ensures.value) ∙ c.caller.view_is in
    let his : length (known c.unwrap-seat.result).seen ≡ length c.args.caller.now.seen = ap (λ (v : View). length v.seen) is in
    let read : c.args.read ≤ length c.args.self.now = omega (arith, c.requires.read) in
    let marks : length c.self.inside.marks.items ≡ length seen = ap length c.self.invariant.marks_are ∙ length-marks stated 0 seen in
    let short : length c.args.self.now + 1 < 2 ^ 64 = omega (arith, c.self.inside.marks.ok.0, c.self.inside.marks.ok.1, c.self.inside.marks.small) in
    behind_more stated c.args.read c.args.self.now g.N.Call.call c.in_ok-texts.texts.items c.push.new.self.items clone read c.in_ok-texts.ensures c.in_ok-push.ensures.items
    (ap (λ (s : Submission). s.text) c.requires.call ∙ sym same) (subst (λ (x : List ℕ). IsFaultless stated x) (sym same) c.requires.offer.faultless) short

pub returns-clause-place : goal.returns-clause-place
returns-clause-place g c =
    let w = known c.unwrap-seat.result in
    let m = known c.meet.new.book in
    let none : times c.count-place.result w ≡ 0 = new_place (known c.self.inside.seat) w m c.count-place.result (ap (λ (x : Me ℕ View). x.0) c.meet.ensures.met) c.count-place.ensures.places in
    let n : c.count-place.result ≡ length c.args.self.now = c.count-place.ensures.place ∙ (ap (λ (x : Me ℕ View). length x.0.seen) c.meet.ensures.met ∙ ap length c.self.view_is) in
    let u : w ≡ c.args.caller.now = ap known_of (sym c.unwrap-seat.ensures ∙ c.take.ensures.value) ∙ c.caller.view_is in
    subst (λ (k : ℕ). times k c.args.caller.now ≡ 0) n (subst (λ (v : View). times c.count-place.result v ≡ 0) u none)
