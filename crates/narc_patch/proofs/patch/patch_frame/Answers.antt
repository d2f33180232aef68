use Rattle.std.proofs.Common.{◌≡◌, length, fold, sym, ap, ◌∙◌, subst}
use Rattle.std.proofs.lemmas.List.Sums.{fold-append}
use Rattle.narc_packet.specs.Frame.{IsFrame}
use Rattle.narc_patch.specs.Change.{changed}
use Rattle.narc_edit.specs.Edited.{edited}
use Rattle.narc_patch.specs.Patched.{eth_changes, header_changes, headers_in, patched}
use Rattle.narc_patch.specs.Room.{HasRoom}
use Rattle.narc_patch.proofs.PatchedFrames.{patched_frames_are_edited}
use Rattle.narc_patch.proofs.Rooms.{has_headers}
use Rattle.narc_patch.proofs.patch.patch_frame.Goals as goal

pub of-headers-requires-clause-ethernet : goal.of-headers-requires-clause-ethernet
of-headers-requires-clause-ethernet c = (has_headers c.requires.0 c.args.frame.now c.requires.1).ethernet

pub of-headers-requires-clause-ipv4 : goal.of-headers-requires-clause-ipv4
of-headers-requires-clause-ipv4 c = (has_headers c.requires.0 c.args.frame.now c.requires.1).ipv4

pub patch_headers-requires : goal.patch_headers-requires
patch_headers-requires c =
    let h = has_headers c.requires.0 c.args.frame.now c.requires.1 in
    subst (λ n. HasRoom c.of-headers.result n) (sym c.patch_eth.auto.frame) (subst (λ s. HasRoom s (length c.args.frame.now)) (sym c.of-headers.ensures) h.all)

pub returns-clause-edited : goal.returns-clause-edited
returns-clause-edited c p f =
    let es = c.args.edits.now in
    let frame = c.args.frame.now in
    let done : c.patch_headers.new.frame ≡ patched es frame =
    c.patch_headers.ensures
    ∙ ap (λ l. fold changed l (header_changes es c.of-headers.result)) c.patch_eth.ensures
    ∙ ap (λ h. fold changed (fold changed frame (eth_changes es)) (header_changes es h)) c.of-headers.ensures
    ∙ sym (fold-append changed frame (eth_changes es) (header_changes es (headers_in frame)))
    in
    subst (IsFrame (edited es p)) (sym done) (patched_frames_are_edited es c.known_ranges.ensures p c.args.frame.now f).0
