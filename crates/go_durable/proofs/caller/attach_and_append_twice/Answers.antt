-- The caller: what each append may leave is one of three logs.
use Rattle.std.proofs.Common.{◌≡◌, ◌⊎◌, inl, inr, ℕ, List, ◌++◌, sym, subst, ◌∙◌}
use Rattle.go_word.specs.declared.edge.Edge.{Edge}
use Rattle.go_disk.specs.Device.{Device}
use Rattle.go_blocks.specs.File.{File}
use Rattle.go_durable.specs.LogState.{OpenedLog}
use Rattle.go_durable.specs.Moments.{LeavesOnly, SettlesTo}
use Rattle.go_durable.specs.Recovery.{Recovers, IsBeforeOrAfter}
use Rattle.go_durable.proofs.Moments.{goes_on}
use Rattle.go_durable.proofs.caller.attach_and_append_twice.Given.{Over}
use Rattle.go_durable.proofs.caller.attach_and_append_twice.Goals.{After-append, After-append-2}
use Rattle.go_durable.proofs.caller.attach_and_append_twice.Goals as goal

-- a front of the final log
abbrev IsOne : ℕ → List Edge → List Edge → List Edge → List ℕ → Type 0
IsOne v log first second image = Recovers v log image ⊎ (Recovers v (log ++ first) image ⊎ Recovers v ((log ++ first) ++ second) image)

-- after the first append
one_of_first : (v u : ℕ) (log first second : List Edge) (image : List ℕ) → u ≡ v → IsBeforeOrAfter u log first image → IsOne v log first second image
one_of_first v u log first second image same (inl before) = inl (inr (subst (λ (w : ℕ). File w log image) same before))
one_of_first v u log first second image same (inr after) = inr (inl (inr (subst (λ (w : ℕ). File w (log ++ first) image) same after)))

after_first : {D : Type 0} (device : Device D) (v u : ℕ) (log first second : List Edge) (old mid new : D) → u ≡ v →
    SettlesTo device old mid (Recovers v log) → LeavesOnly device mid new (IsBeforeOrAfter u log first) → SettlesTo device old new (IsOne v log first second)
after_first device v u log first second old mid new same opening leaves =
    goes_on device old mid new (Recovers v log) (IsBeforeOrAfter u log first) (IsOne v log first second) (λ image recovers. inl recovers) (λ image is.
    one_of_first v u log first second image same is) opening leaves

-- after the second
one_of_second : (v u : ℕ) (log first second : List Edge) (image : List ℕ) → u ≡ v → IsBeforeOrAfter u (log ++ first) second image
    → IsOne v log first second image
one_of_second v u log first second image same (inl before) = inr (inl (inr (subst (λ (w : ℕ). File w (log ++ first) image) same before)))
one_of_second v u log first second image same (inr after) = inr (inr (inr (subst (λ (w : ℕ). File w ((log ++ first) ++ second) image) same after)))

after_second : {D : Type 0} (device : Device D) (v u : ℕ) (log first second : List Edge) (old mid new : D) → u ≡ v →
    SettlesTo device old mid (IsOne v log first second) → LeavesOnly device mid new (IsBeforeOrAfter u (log ++ first) second)
    → SettlesTo device old new (IsOne v log first second)
after_second device v u log first second old mid new same so_far leaves =
    goes_on device old mid new (IsOne v log first second) (IsBeforeOrAfter u (log ++ first) second) (IsOne v log first second) (λ image is. is) (λ image is.
    one_of_second v u log first second image same is) so_far leaves

-- the moments of the opening
opening : (g : Over) (c : After-append g) → SettlesTo g.D.Disk.device c.args.disk c.log.inside.log.disk (Recovers c.args.vertices c.log.inside.edges.items)
opening g c = subst (λ (f : OpenedLog g.row.D.Denot). SettlesTo g.D.Disk.device c.args.disk f.log.disk (Recovers c.args.vertices f.edges))
    (sym c.log.view_is) c.in-Ok.ensures.recovers

-- it is a log of the vertices that were asked for
vertices_same : (g : Over) (c : After-append g) → c.log.inside.log.vertices ≡ c.args.vertices
vertices_same g c = subst (λ (f : OpenedLog g.row.D.Denot). f.log.vertices ≡ c.args.vertices) (sym c.log.view_is) c.in-Ok.ensures.log.vertices_are

-- the moments up to the end of the first append
one : (g : Over) (c : After-append g) (new : g.row.D.Denot)
    → LeavesOnly g.D.Disk.device c.log.inside.log.disk new (IsBeforeOrAfter c.log.inside.log.vertices c.log.inside.edges.items c.args.first.now) →
    SettlesTo g.D.Disk.device c.args.disk new (IsOne c.args.vertices c.log.inside.edges.items c.args.first.now c.args.second.now)
one g c new leaves =
    after_first g.D.Disk.device c.args.vertices c.log.inside.log.vertices c.log.inside.edges.items c.args.first.now c.args.second.now c.args.disk
    c.log.inside.log.disk new (vertices_same g c) (opening g c) leaves

-- and of the second
two : (g : Over) (c : After-append-2 g) (new : g.row.D.Denot) → c.log.inside.log.vertices ≡ c.args.vertices →
    SettlesTo g.D.Disk.device c.args.disk c.in-Ok-append.log.disk (IsOne c.args.vertices c.log.inside.edges.items c.args.first.now c.args.second.now) →
    LeavesOnly g.D.Disk.device c.in-Ok-append.log.disk new
    (IsBeforeOrAfter c.in-Ok-append.log.vertices (c.log.inside.edges.items ++ c.args.first.now) c.args.second.now) →
    SettlesTo g.D.Disk.device c.args.disk new (IsOne c.args.vertices c.log.inside.edges.items c.args.first.now c.args.second.now)
two g c new same so_far leaves =
    let longer = c.in-Ok-append.ensures.answer in
    after_second g.D.Disk.device c.args.vertices c.in-Ok-append.log.vertices c.log.inside.edges.items c.args.first.now c.args.second.now c.args.disk
    c.in-Ok-append.log.disk new (longer.vertices_are ∙ same) so_far leaves

pub returns-in-Err-append : goal.returns-in-Err-append
returns-in-Err-append g c =
    subst (λ (d : g.row.D.Denot). SettlesTo g.D.Disk.device c.args.disk d
    (IsOne c.args.vertices c.log.inside.edges.items c.args.first.now c.args.second.now)) (sym c.disk_in.ensures)
    (one g (goal.at.returns-in-Err-append g c).After-append _ (c.in-Err-append.ensures.moments c.log.inside.edges.items c.log.invariant.stands))

pub returns-in-Ok-append-2 : goal.returns-in-Ok-append-2
returns-in-Ok-append-2 g c =
    let at = goal.at.returns-in-Ok-append-2 g c in
    let longer = c.in-Ok-append.ensures.answer in
    subst (λ (d : g.row.D.Denot). SettlesTo g.D.Disk.device c.args.disk d
    (IsOne c.args.vertices c.log.inside.edges.items c.args.first.now c.args.second.now)) (sym c.into_disk.ensures)
    (two g at.After-append-2 _ (vertices_same g at.After-append)
    (one g at.After-append c.in-Ok-append.log.disk (c.in-Ok-append.ensures.moments c.log.inside.edges.items c.log.invariant.stands))
    (c.in-Ok-append-2.ensures.moments (c.log.inside.edges.items ++ c.args.first.now) (longer.stands c.log.inside.edges.items c.log.invariant.stands)))

pub returns-in-Err-append-2 : goal.returns-in-Err-append-2
returns-in-Err-append-2 g c =
    let at = goal.at.returns-in-Err-append-2 g c in
    let longer = c.in-Ok-append.ensures.answer in
    subst (λ (d : g.row.D.Denot). SettlesTo g.D.Disk.device c.args.disk d
    (IsOne c.args.vertices c.log.inside.edges.items c.args.first.now c.args.second.now)) (sym c.disk_in-in-Err-append-2.ensures)
    (two g at.After-append-2 _ (vertices_same g at.After-append)
    (one g at.After-append c.in-Ok-append.log.disk (c.in-Ok-append.ensures.moments c.log.inside.edges.items c.log.invariant.stands))
    (c.in-Err-append-2.ensures.moments (c.log.inside.edges.items ++ c.args.first.now) (longer.stands c.log.inside.edges.items c.log.invariant.stands)))
