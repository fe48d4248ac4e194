-- Each question's program is sound, and so is each plain answer.
use Rattle.std.proofs.Common.{ℕ}
use Rattle.lk_table_sound.proofs.Book.{Book, IsJustified, WellStated, IsSoundTable}
use Rattle.lk_questions.specs.Query.{Query, core, whnf, infer, same}
use Rattle.lk_questions.specs.Answer.{IfAnswered, plain_answer}
use Rattle.lk_questions.specs.Program.{Table}
use Rattle.lk_questions.specs.Sound.{IsAskable}
use Rattle.lk_questions.specs.Table.{steps}
use Rattle.lk_table_sound.proofs.Soundness.{sound_answer}
use Rattle.lk_table_sound.proofs.Infers.{sound_infer}
use Rattle.lk_table_sound.proofs.Cores.{sound_core, sound_whnf}
use Rattle.lk_table_sound.proofs.Sames.{sound_same}

pub sound_steps : IsSoundTable steps
sound_steps w ok (core e) f = sound_core w ok e f
sound_steps w ok (whnf e) f = sound_whnf w ok e f
sound_steps w ok (infer e) f = sound_infer w ok e f
sound_steps w ok (same a b) f = sound_same w ok a b f.0 f.1

pub ans_sound : (table : Table) → IsSoundTable table → (w : Book) → WellStated w → (q : Query) (b : ℕ) → IsAskable q → IfAnswered (plain_answer table w.place q b) (λ v c t. IsJustified w q v)
ans_sound table s w ok q b f = sound_answer table w (s w ok) b q b f
