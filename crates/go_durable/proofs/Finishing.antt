-- Lemmas on the end of a journal.
use Rattle.std.proofs.Common.{◌≡◌, ℕ, ◌≤◌, true, false, List, length, take, drop, Option, None, Some, refl, ap, arith, sym, subst, ◌∙◌, inr, take_all}
use Rattle.std.proofs.lemmas.List.{length-drop}
use Rattle.std.specs.Prelude.{IfSome, IsSome}
use Rattle.go_text.specs.Causes.{Rose}
use Rattle.go_word.specs.declared.edge.Edge.{Edge}
use Rattle.go_api.specs.declared.stop.Stop.{Stop}
use Rattle.go_api.specs.declared.stop.Stop.TheVariants as stops
use Rattle.go_blocks.specs.File.{File}
use Rattle.go_disk.specs.Device.{Device, IsDevice}
use Rattle.go_durable.specs.declared.finished.Finished.{Finished}
use Rattle.go_durable.specs.declared.journal.Journal.{Journal}
use Rattle.go_durable.specs.declared.journal.Journal.TheVariants.{Sound, Spent}
use Rattle.go_durable.specs.Appending.{HasImage}
use Rattle.go_durable.specs.Finishing.{IsWhole, Ends, HasFinished}
use Rattle.go_durable.specs.Journal.{journal_disk, journal_front, is_spent, HasDurable, Keeps, KeepsOn, HasFlushed}
use Rattle.go_durable.specs.LogState.{LogState}
use Rattle.go_durable.specs.Recovery.{Recovers, RecoversPart, AreNext}
use Rattle.go_durable.proofs.Journals.{told_has}
use Rattle.go_durable.proofs.Standing.{log_image, log_file}

module _ {D : Type 0} (device : Device D) (rules : IsDevice device) where
  -- each image of a journal's disk has at least the durable entries
  each_image : (v : ℕ) (log : List Edge) (opened : D) (journal : Journal D) (image : List ℕ) → journal_front journal ≤ length log
      → HasDurable device v log opened journal → device.images (journal_disk journal) image →
      RecoversPart v (journal_front journal) log image
  each_image v log opened (Sound kept) image within has is = record {
    count = kept.front;
    at_least = omega arith;
    at_most = within;
    recovers = inr (subst (λ (n : ℕ). File n (take kept.front log) image) has.vertices_are (log_image device kept (take kept.front log) image has.stands is));
  }
  each_image v log opened (Spent disk front) image within has is = has.each image is

  -- a told option
  told_bytes : (o : Option (List ℕ)) → IsSome o → (bytes : List ℕ) × (o ≡ Some bytes)
  told_bytes None some = absurd (let h : false ≡ true = some in cc)
  told_bytes (Some bytes) some = (bytes, refl)

  -- and one of them, where the disk tells, has just these
  one_image : (v : ℕ) (log : List Edge) (opened : D) (journal : Journal D) → HasDurable device v log opened journal →
      IfSome (device.contents opened) (λ bytes. HasImage (device.images (journal_disk journal)) (Recovers v (take (journal_front journal) log)))
  one_image v log opened (Sound kept) has = if_told (device.contents opened) has.told where
    if_told : (o : Option (List ℕ)) → IfSome o (λ bytes. IsSome (device.contents kept.disk))
        → IfSome o (λ bytes. HasImage (device.images kept.disk) (Recovers v (take kept.front log)))
    if_told None told = tt
    if_told (Some bytes) told =
        let now = told_bytes (device.contents kept.disk) told in
        record {
          image = now.0;
          is_image = rules.contents_is_image kept.disk now.0 now.1;
          has = inr (subst (λ (n : ℕ). File n (take kept.front log) now.0) has.vertices_are
              (log_file device kept (take kept.front log) now.0 has.stands now.1));
        }
  one_image v log opened (Spent disk front) has = if_told (device.contents opened) has.told where
    if_told : (o : Option (List ℕ)) → IfSome o (λ bytes. IsSome (device.contents disk))
        → IfSome o (λ bytes. HasImage (device.images disk) (Recovers v (take front log)))
    if_told None told = tt
    if_told (Some bytes) told = told_has (device.contents disk) told has.one

  -- a file of the whole log is an image, where the disk told
  whole_image : (v : ℕ) (log : List Edge) (opened : D) (kept : LogState D) → take kept.front log ≡ log → HasDurable device v log opened (Sound kept) →
      IfSome (device.contents opened) (λ bytes. HasImage (device.images kept.disk) (File v log))
  whole_image v log opened kept all has = if_told (device.contents opened) has.told where
    if_told : (o : Option (List ℕ)) → IfSome o (λ bytes. IsSome (device.contents kept.disk))
        → IfSome o (λ bytes. HasImage (device.images kept.disk) (File v log))
    if_told None told = tt
    if_told (Some bytes) told =
        let now = told_bytes (device.contents kept.disk) told in
        record {
          image = now.0;
          is_image = rules.contents_is_image kept.disk now.0 now.1;
          has = subst (λ (l : List Edge). File v l now.0) all
              (subst (λ (n : ℕ). File n (take kept.front log) now.0) has.vertices_are (log_file device kept (take kept.front log) now.0 has.stands now.1));
        }

  -- a journal that can go on, with the whole log
  whole : (v : ℕ) (log : List Edge) (opened : D) (journal : Journal D) (finished : Finished D) → is_spent journal ≡ false
      → journal_front journal ≡ length log → HasDurable device v log opened journal →
      finished.disk ≡ journal_disk journal → finished.durable ≡ journal_front journal → IsWhole device v log opened finished
  whole v log opened (Sound kept) finished sound reach has disk durable =
      let all : take kept.front log ≡ log = ap (λ (n : ℕ). take n log) reach ∙ take_all (length log) log (omega arith) in
      record {
        all = durable ∙ reach;
        only = rw disk has.stands.shut.quiet.only;
        each = rw disk (λ image is.
            subst (λ (l : List Edge). File v l image) all
            (subst (λ (n : ℕ). File n (take kept.front log) image) has.vertices_are (log_image device kept (take kept.front log) image has.stands is)));
        one = rw disk (whole_image v log opened kept all has);
      }
  whole v log opened (Spent disk front) finished sound reach has is durable = absurd (let h : true ≡ false = sound in cc)

  -- a spent journal's disk has failed
  rose_by : (v : ℕ) (log : List Edge) (opened : D) (journal : Journal D) → is_spent journal ≡ true → HasDurable device v log opened journal
      → Rose (device.faults opened) (device.faults (journal_disk journal))
  rose_by v log opened (Sound kept) spent has = absurd (let h : false ≡ true = spent in cc)
  rose_by v log opened (Spent disk front) spent has = has.rose

  -- this is what was handed out of a journal
  pub record IsHandedOut (journal : Journal D) (finished : Finished D) : Type 0 where
    pub disk : finished.disk ≡ journal_disk journal
    pub durable : finished.durable ≡ journal_front journal

  -- a journal has ended, by its stop
  ends_by : (v first : ℕ) (log : List Edge) (opened : D) (old journal : Journal D) (edges : List Edge) (finished : Finished D) (stop : Option Stop)
      → Keeps device v first log opened journal →
      edges ≡ drop (journal_front old) log → journal_front old ≤ length log → HasFlushed edges old journal stop → IsHandedOut journal finished →
      Ends device v log opened finished stop
  ends_by v first log opened old journal edges finished None keeps are within flushed out =
      let reach : journal_front journal ≡ length log = omega (arith, flushed.durable, ap length are, length-drop (journal_front old) log, within) in
      whole v log opened journal finished flushed.sound reach keeps.has out.disk out.durable
  ends_by v first log opened old journal edges finished (Some stops.Disk) keeps are within flushed out =
      rw out.disk (rose_by v log opened journal flushed keeps.has)
  ends_by v first log opened old journal edges finished (Some stops.Memory) keeps are within flushed out = tt

  -- one that was spent ends with the disk
  spent_by : (edges : List Edge) (old journal : Journal D) (stop : Option Stop) → HasFlushed edges old journal stop → is_spent journal ≡ true
      → stop ≡ Some stops.Disk
  spent_by edges old journal None flushed spent = absurd (let h : false ≡ true = sym flushed.sound ∙ spent in cc)
  spent_by edges old journal (Some stops.Disk) flushed spent = refl
  spent_by edges old journal (Some stops.Memory) flushed spent = absurd (let h : false ≡ true = sym flushed ∙ spent in cc)

  -- all that is behind is next
  all_next : (edges : List Edge) (front : ℕ) (log : List Edge) → edges ≡ drop front log → AreNext edges front log
  all_next edges front log are = are
      ∙ sym (ap (λ (l : List Edge). take (length l) (drop front log)) are ∙ take_all (length (drop front log)) (drop front log) (omega arith))

  -- a journal has ended
  pub finishes : (v first : ℕ) (log : List Edge) (opened : D) (old journal : Journal D) (edges : List Edge) (end : Finished D)
      → Keeps device v first log opened old →
      edges ≡ drop (journal_front old) log → KeepsOn device edges old journal → HasFlushed edges old journal end.stop → IsHandedOut journal end →
      HasFinished device v first log opened old end
  finishes v first log opened old journal edges end kept are on flushed out =
      let keeps = on.keeps v first log opened kept (all_next edges (journal_front old) log are) in
      record {
        no_less = rw out.durable on.no_less;
        most = rw out.durable keeps.most;
        each = rw (out.disk, out.durable) (λ image is. each_image v log opened journal image keeps.most keeps.has is);
        one = rw (out.disk, out.durable) (one_image v log opened journal keeps.has);
        moments = rw out.disk keeps.moments;
        count = rw out.disk keeps.count;
        ends = ends_by v first log opened old journal edges end end.stop keeps are kept.most flushed out;
        spent = λ met. spent_by edges old journal end.stop flushed (on.met_stays met);
      }
