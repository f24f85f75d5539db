-- Planned changes of the processes of a node.
use Rattle.std.specs.Prelude.{◌≡◌, ◌⊎◌, ℕ, ◌<◌, true, false, List, Option, Some, None, length}
use Rattle.model.specs.rule.Limits.{IsNumber, most_processes, most_descriptors, most_descriptions}
use Rattle.model.specs.rule.Descriptors.{Processes, with_process, with_descriptor, is_open, lowest_description}
use Rattle.descriptors.specs.declared.process_entry.ProcessEntry.{ProcessEntry}
use Rattle.descriptors.specs.declared.edit.ProcessEdit.{ProcessEdit}
use Rattle.descriptors.specs.declared.edit.ProcessEdit.TheVariants.{Begins, Forks, Opens}
use Rattle.descriptors.specs.rule.Rows.{processes}

-- the processes after the edit is made
abbrev pub edited : Processes → ProcessEdit → Processes
edited ps (Begins pid more) = with_process ps pid true (λ fd. None)
edited ps (Forks pid child more) = with_process ps child true (ps.opened pid)
edited ps (Opens pid fd opened) = with_descriptor ps pid fd (Some opened)

-- process pid has a place: in `more`, which has the same processes with more places, or in the rows already
abbrev pub HasPlace : List ProcessEntry → ℕ → Option (List ProcessEntry) → Type 0
HasPlace rows pid None = pid < length rows
HasPlace rows pid (Some more) = (pid < length more) × (processes more ≡ processes rows)

-- description d is open, or is the next one to be opened
abbrev pub IsKnown : Processes → ℕ → Type 0
IsKnown ps d = (is_open ps d ≡ true) ⊎ (d ≡ lowest_description ps)

-- the edit can be made: the process that begins doesn't run and has a place, and the descriptor that opens is free
abbrev pub Fits : List ProcessEntry → ProcessEdit → Type 0
Fits rows (Begins pid more) = ((processes rows).runs pid ≡ false) × IsNumber most_processes pid × HasPlace rows pid more
Fits rows (Forks pid child more) = ((processes rows).runs pid ≡ true) × ((processes rows).runs child ≡ false) × IsNumber most_processes child × HasPlace rows child more
Fits rows (Opens pid fd opened) = ((processes rows).runs pid ≡ true) × (fd < most_descriptors) × IsNumber most_descriptions opened.description × ((processes rows).opened pid fd ≡ None) × IsKnown (processes rows) opened.description
