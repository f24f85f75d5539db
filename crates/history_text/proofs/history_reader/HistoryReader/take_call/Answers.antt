use Rattle.std.proofs.Common.{ℕ, ◌+◌, ◌≤◌, List, refl, ap, sym, subst, ◌∙◌, arith}
use Rattle.texts.specs.rule.Reads.{IsWithin}
use Rattle.history_text.specs.declared.owners.Life.{Life}
use Rattle.history_text.specs.code.Readings.{IsCallOf, IsWhole}
use Rattle.history_text.proofs.FileLaws.{files_extend}
use Rattle.history_text.proofs.history_reader.HistoryReader.take_call.Goals as goal

pub returns-in_default-clause-read : goal.returns-in_default-clause-read
returns-in_default-clause-read c =
    let old : List Life = c.args.self.now.known.owners.lives.items in
    let new : List Life = c.next_call.new.self.owners.lives.items in
    let learns = c.in-Ok.ensures.learns in
    let within : IsWithin 1 c.args.line c.args.line = (c.requires.line, omega arith) in
    let le : c.args.line ≤ c.args.line = omega arith in
    record {
      sound = learns.sound;
      lives = learns.lives c.args.line within c.requires.read.lives;
      files = files_extend old new c.args.line c.args.line learns.extends le c.args.self.now.files.items c.requires.read.files;
      calls = c.requires.read.calls;
      alone = c.requires.read.alone;
      losses = c.requires.read.losses;
    }

pub returns-in-None-clause-read : goal.returns-in-None-clause-read
returns-in-None-clause-read c =
    let old : List Life = c.args.self.now.known.owners.lives.items in
    let new : List Life = c.next_call.new.self.owners.lives.items in
    let learns = c.in-Ok.ensures.learns in
    let within : IsWithin 1 c.args.line c.args.line = (c.requires.line, omega arith) in
    let le : c.args.line ≤ c.args.line = omega arith in
    let added = c.in_ok-add_file.ensures in
    record {
      sound = learns.sound;
      lives = learns.lives c.args.line within c.requires.read.lives;
      files = added.files new c.args.line (files_extend old new c.args.line c.args.line learns.extends le c.args.self.now.files.items c.requires.read.files);
      calls = added.lines ∙ c.requires.read.calls;
      alone = λ none. added.alone (c.requires.read.alone none);
      losses = c.requires.read.losses;
    }

pub returns-in_ok-push_call-in-One-clause-read : goal.returns-in_ok-push_call-in-One-clause-read
returns-in_ok-push_call-in-One-clause-read c =
    let old : List Life = c.args.self.now.known.owners.lives.items in
    let new : List Life = c.next_call.new.self.owners.lives.items in
    let learns = c.in-Ok.ensures.learns in
    let begun = c.in-Ok.ensures.begun in
    let within : IsWithin 1 c.args.line c.args.line = (c.requires.line, omega arith) in
    let le : c.args.line ≤ c.args.line = omega arith in
    let added = c.in_ok-add_file.ensures in
    let pushed = c.in_ok-push_call-in-One.ensures in
    let is : IsCallOf new c.call_of-call.result = subst (IsCallOf new) (sym c.call_of-call.ensures) (record {
      number = c.in-Ok.call.owner;
      life = begun.0;
      known = begun.1;
      owner = refl;
      begun = begun.2;
      timed = c.in-Ok.ensures.timed;
      goes_on = refl;
    }) in
    record {
      sound = learns.sound;
      lives = learns.lives c.args.line within c.requires.read.lives;
      files = pushed.files new c.args.line within is (added.files new c.args.line (files_extend old new c.args.line c.args.line learns.extends le c.args.self.now.files.items c.requires.read.files));
      calls = pushed.lines ∙ ap (λ (n : ℕ). n + 1) (added.lines ∙ c.requires.read.calls);
      alone = λ none. pushed.alone (added.alone (c.requires.read.alone none));
      losses = c.requires.read.losses;
    }

pub returns-in_ok-push_steps-in-Two-clause-read : goal.returns-in_ok-push_steps-in-Two-clause-read
returns-in_ok-push_steps-in-Two-clause-read c =
    let old : List Life = c.args.self.now.known.owners.lives.items in
    let new : List Life = c.next_call.new.self.owners.lives.items in
    let learns = c.in-Ok.ensures.learns in
    let begun = c.in-Ok.ensures.begun in
    let within : IsWithin 1 c.args.line c.args.line = (c.requires.line, omega arith) in
    let le : c.args.line ≤ c.args.line = omega arith in
    let added = c.in_ok-add_file.ensures in
    let pushed = c.in_ok-push_steps-in-Two.ensures in
    let first : IsCallOf new c.call_of-first.result = subst (IsCallOf new) (sym c.call_of-first.ensures) (record {
      number = c.in-Ok.call.owner;
      life = begun.0;
      known = begun.1;
      owner = refl;
      begun = begun.2;
      timed = c.in-Ok.ensures.timed;
      goes_on = refl;
    }) in
    let second : IsCallOf new c.call_of-second.result = subst (IsCallOf new) (sym c.call_of-second.ensures) (record {
      number = c.in-Ok.call.owner;
      life = begun.0;
      known = begun.1;
      owner = refl;
      begun = begun.2;
      timed = c.in-Ok.ensures.timed;
      goes_on = refl;
    }) in
    record {
      sound = learns.sound;
      lives = learns.lives c.args.line within c.requires.read.lives;
      files = pushed.files new c.args.line within first second (added.files new c.args.line (files_extend old new c.args.line c.args.line learns.extends le c.args.self.now.files.items c.requires.read.files));
      calls = pushed.lines ∙ ap (λ (n : ℕ). n + 1) (added.lines ∙ c.requires.read.calls);
      alone = λ none. absurd (subst IsWhole c.in-Two.is (c.steps_of.ensures none));
      losses = c.requires.read.losses;
    }
