use Rattle.std.proofs.Common.{◌∙◌}
use Rattle.lk_engine.proofs.knowledge.begin_unit.Goals as goal

pub returns-then-stays : goal.returns-then-stays
returns-then-stays c = record {
  private = λ k v h. c.start.ensures.private k v
      (rw (c.stay.ensures.recent, c.stay.ensures.cache) at h);
  lasting = rw c.stay.ensures.lasting c.start.ensures.lasting;
  each = λ k v h. (
    c.if-stays.true,
    rw (c.stay.ensures.staying.slots ∙ c.start.ensures.staying.slots) at h,
  );
  terms = c.stay.ensures.staying.terms;
  looks = c.stay.ensures.staying.unit ∙ c.start.ensures.staying.unit;
}

pub returns-else-stays : goal.returns-else-stays
returns-else-stays c =
    let gone = c.forget_staying.ensures in
    record {
      private = λ k v h. c.start.ensures.private k v (rw (gone.recent, gone.cache) at h);
      lasting = rw gone.lasting c.start.ensures.lasting;
      each = λ k v h. absurd (gone.staying.none k v h);
      terms = gone.staying.terms;
      looks = gone.staying.unit ∙ c.start.ensures.staying.unit;
    }
