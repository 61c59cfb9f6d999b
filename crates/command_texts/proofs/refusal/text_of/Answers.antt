use Rattle.std.proofs.Common.{ap}
use Rattle.command_texts.specs.Refused.{refusal_of}
use Rattle.command_texts.specs.declared.refusal.Refusal.{Refusal}
use Rattle.command_texts.proofs.RefusalLemmas.{no_word, one_word}
use Rattle.command_texts.proofs.refusal.text_of.Goals as goal

pub returns-in_ok-format-in-Usage : goal.returns-in_ok-format-in-Usage
returns-in_ok-format-in-Usage c = no_word (refusal_of c.args.refusal.now) _ _ c.number_of-number.ensures (ap (λ (r : Refusal). (refusal_of r).words) c.in-Usage.is) c.in_ok-format-in-Usage.ensures.ok

pub returns-in_ok-format-in-NotThere : goal.returns-in_ok-format-in-NotThere
returns-in_ok-format-in-NotThere c = one_word (refusal_of c.args.refusal.now) _ _ _ c.number_of-number.ensures (ap (λ (r : Refusal). (refusal_of r).words) c.in-NotThere.is) c.in_ok-format-in-NotThere.ensures.ok

pub returns-in_ok-format-in-TooLong : goal.returns-in_ok-format-in-TooLong
returns-in_ok-format-in-TooLong c = one_word (refusal_of c.args.refusal.now) _ _ _ c.number_of-number.ensures (ap (λ (r : Refusal). (refusal_of r).words) c.in-TooLong.is) c.in_ok-format-in-TooLong.ensures.ok

pub returns-in_ok-format-in-BadWord : goal.returns-in_ok-format-in-BadWord
returns-in_ok-format-in-BadWord c = one_word (refusal_of c.args.refusal.now) _ _ _ c.number_of-number.ensures (ap (λ (r : Refusal). (refusal_of r).words) c.in-BadWord.is) c.in_ok-format-in-BadWord.ensures.ok

pub returns-in_ok-format-in-TooManyFiles : goal.returns-in_ok-format-in-TooManyFiles
returns-in_ok-format-in-TooManyFiles c = one_word (refusal_of c.args.refusal.now) _ _ _ c.number_of-number.ensures (ap (λ (r : Refusal). (refusal_of r).words) c.in-TooManyFiles.is) c.in_ok-format-in-TooManyFiles.ensures.ok

pub returns-in_ok-format-in-NoPlan : goal.returns-in_ok-format-in-NoPlan
returns-in_ok-format-in-NoPlan c = no_word (refusal_of c.args.refusal.now) _ _ c.number_of-number.ensures (ap (λ (r : Refusal). (refusal_of r).words) c.in-NoPlan.is) c.in_ok-format-in-NoPlan.ensures.ok

pub returns-in_ok-format-in-OtherRecipe : goal.returns-in_ok-format-in-OtherRecipe
returns-in_ok-format-in-OtherRecipe c = no_word (refusal_of c.args.refusal.now) _ _ c.number_of-number.ensures (ap (λ (r : Refusal). (refusal_of r).words) c.in-OtherRecipe.is) c.in_ok-format-in-OtherRecipe.ensures.ok
