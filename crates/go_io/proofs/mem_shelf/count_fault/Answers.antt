-- One count rises: that of the entry, or that of all other names.
use Rattle.std.proofs.Common.{◌≡◌, ℕ, List, ap, ◌∙◌, map, if◌then◌else◌}
use Rattle.go_io.specs.Entries.{held_of}
use Rattle.go_io.specs.MemShelf.{NamedText, faults_in, shares_count}
use Rattle.go_io.proofs.EntryLemmas.{place_found, place_none}
use Rattle.go_io.proofs.NamedTextLemmas.{text_in-counted, faults_in-counted, faults_in-others, shares_count-self}
use Rattle.go_io.proofs.mem_shelf.count_fault.Goals as goal

-- the name's own count is the one that rises
own : (held : List NamedText) (name : List ℕ) (x y : ℕ) → (if shares_count held name name then x else y) ≡ x
own held name x y = rw (shares_count-self held name)

pub returns-in-Some-clause-texts : goal.returns-in-Some-clause-texts
returns-in-Some-clause-texts c =
    let found = place_found c.args.entries.now c.args.name.now c.in-Some.place c.in-Some.ensures in
    text_in-counted (map held_of c.args.entries.now) c.args.name.now c.in-Some.place found.0 found.1
    (map held_of c.raise_faults.new.entries) c.raise_faults.ensures

pub returns-in-Some-clause-counts : goal.returns-in-Some-clause-counts
returns-in-Some-clause-counts c =
    let found = place_found c.args.entries.now c.args.name.now c.in-Some.place c.in-Some.ensures in
    faults_in-counted (map held_of c.args.entries.now) c.args.name.now c.in-Some.place found.0 found.1
    (map held_of c.raise_faults.new.entries) c.raise_faults.ensures c.args.other_faults.now

pub returns-in-None-clause-counts : goal.returns-in-None-clause-counts
returns-in-None-clause-counts c = λ other.
    ap (λ others. faults_in (map held_of c.args.entries.now) others other) c.one_more.ensures
    ∙ faults_in-others (map held_of c.args.entries.now) c.args.name.now c.args.other_faults.now other
    (place_none c.args.entries.now c.args.name.now c.in-None.ensures)

pub returns-in-Some-clause-own : goal.returns-in-Some-clause-own
returns-in-Some-clause-own c =
    let found = place_found c.args.entries.now c.args.name.now c.in-Some.place c.in-Some.ensures in
    faults_in-counted (map held_of c.args.entries.now) c.args.name.now c.in-Some.place found.0 found.1
    (map held_of c.raise_faults.new.entries) c.raise_faults.ensures c.args.other_faults.now c.args.name.now
    ∙ own (map held_of c.args.entries.now) c.args.name.now _ _

pub returns-in-None-clause-own : goal.returns-in-None-clause-own
returns-in-None-clause-own c =
    ap (λ others. faults_in (map held_of c.args.entries.now) others c.args.name.now) c.one_more.ensures
    ∙ (faults_in-others (map held_of c.args.entries.now) c.args.name.now c.args.other_faults.now c.args.name.now
    (place_none c.args.entries.now c.args.name.now c.in-None.ensures)
    ∙ own (map held_of c.args.entries.now) c.args.name.now _ _)
