use Rattle.std.proofs.lemmas.Result.{err_from_is_err_and}
use Rattle.mdi_items.proofs.TableLemmas.{ThreeRight, in_table, is_mdi, ptr_fault, dlfc_fault, fac_fault, sdci_fault, robm_fault, sdc_fault, str_fault, none_in_table}
use Rattle.mdi_items.proofs.ViewLemmas.{spans_inside, span_inside, right_lengths}
use Rattle.mdi_items.proofs.view.read_whole.Goals as goal

pub returns-in_err-major-clause-fault : goal.returns-in_err-major-clause-fault
returns-in_err-major-clause-fault c =
    let p = err_from_is_err_and c.from_residual-in_err-major.result c.from_residual-in_err-major.ensures.1 in
    rw (p.1, p.2) (in_table c.args.payload.now c.in_ok-known.known _ c.in_ok-known.ensures.known (ptr_fault c.args.payload.now c.in_ok-known.known _ c.in_err-major.ensures.fault))

pub returns-in_err-dlfc-clause-fault : goal.returns-in_err-dlfc-clause-fault
returns-in_err-dlfc-clause-fault c =
    let p = err_from_is_err_and c.from_residual-in_err-dlfc.result c.from_residual-in_err-dlfc.ensures.1 in
    rw (p.1, p.2) (in_table c.args.payload.now c.in_ok-known.known _ c.in_ok-known.ensures.known (dlfc_fault c.args.payload.now c.in_ok-known.known _ c.in_ok-major.ensures.right c.in_err-dlfc.ensures.fault))

pub returns-in_err-fac_bytes-clause-fault : goal.returns-in_err-fac_bytes-clause-fault
returns-in_err-fac_bytes-clause-fault c =
    let p = err_from_is_err_and c.from_residual-in_err-fac_bytes.result c.from_residual-in_err-fac_bytes.ensures.1 in
    rw (p.1, p.2) (in_table c.args.payload.now c.in_ok-known.known _ c.in_ok-known.ensures.known
    (fac_fault c.args.payload.now c.in_ok-known.known _ c.in_ok-major.ensures.right c.in_ok-dlfc.ensures.right c.in_err-fac_bytes.ensures.fault))

pub returns-in_err-mux-clause-fault : goal.returns-in_err-mux-clause-fault
returns-in_err-mux-clause-fault c =
    let p = err_from_is_err_and c.from_residual-in_err-mux.result c.from_residual-in_err-mux.ensures.1 in
    let right : ThreeRight c.args.payload.now c.in_ok-known.known = record { ptr = c.in_ok-major.ensures.right; dlfc = c.in_ok-dlfc.ensures.right; fac = c.in_ok-fac_bytes.ensures.right } in
    rw (p.1, p.2) (in_table c.args.payload.now c.in_ok-known.known _ c.in_ok-known.ensures.known (sdci_fault c.args.payload.now c.in_ok-known.known _ right c.in_err-mux.ensures.fault))

pub returns-in_err-mode-clause-fault : goal.returns-in_err-mode-clause-fault
returns-in_err-mode-clause-fault c =
    let p = err_from_is_err_and c.from_residual-in_err-mode.result c.from_residual-in_err-mode.ensures.1 in
    let right : ThreeRight c.args.payload.now c.in_ok-known.known = record { ptr = c.in_ok-major.ensures.right; dlfc = c.in_ok-dlfc.ensures.right; fac = c.in_ok-fac_bytes.ensures.right } in
    rw (p.1, p.2) (in_table c.args.payload.now c.in_ok-known.known _ c.in_ok-known.ensures.known
    (robm_fault c.args.payload.now c.in_ok-known.known _ right c.in_ok-mux.ensures.right c.in_err-mode.ensures.fault))

pub returns-in_err-sdc-clause-fault : goal.returns-in_err-sdc-clause-fault
returns-in_err-sdc-clause-fault c =
    let p = err_from_is_err_and c.from_residual-in_err-sdc.result c.from_residual-in_err-sdc.ensures.1 in
    let right : ThreeRight c.args.payload.now c.in_ok-known.known = record { ptr = c.in_ok-major.ensures.right; dlfc = c.in_ok-dlfc.ensures.right; fac = c.in_ok-fac_bytes.ensures.right } in
    rw (p.1, p.2) (in_table c.args.payload.now c.in_ok-known.known _ c.in_ok-known.ensures.known
    (sdc_fault c.args.payload.now c.in_ok-known.known _ right c.in_ok-mux.ensures.right c.in_ok-mode.ensures.right c.in_err-sdc.ensures.fault))

pub returns-in_err-check_streams-clause-fault : goal.returns-in_err-check_streams-clause-fault
returns-in_err-check_streams-clause-fault c =
    let p = err_from_is_err_and c.from_residual-in_err-check_streams.result c.from_residual-in_err-check_streams.ensures.1 in
    let right : ThreeRight c.args.payload.now c.in_ok-known.known = record { ptr = c.in_ok-major.ensures.right; dlfc = c.in_ok-dlfc.ensures.right; fac = c.in_ok-fac_bytes.ensures.right } in
    rw (p.1, p.2) (in_table c.args.payload.now c.in_ok-known.known _ c.in_ok-known.ensures.known
    (str_fault c.args.payload.now c.in_ok-known.known c.in_ok-mux.mux _ right c.in_ok-mux.ensures.right c.in_ok-mode.ensures.right c.in_ok-sdc.ensures.right c.in_ok-mux.ensures.value c.in_err-check_streams.ensures.fault))

pub returns-clause-read : goal.returns-clause-read
returns-clause-read c =
    let right : ThreeRight c.args.payload.now c.in_ok-known.known = record { ptr = c.in_ok-major.ensures.right; dlfc = c.in_ok-dlfc.ensures.right; fac = c.in_ok-fac_bytes.ensures.right } in
    let none = none_in_table c.args.payload.now c.in_ok-known.known c.in_ok-mux.mux right c.in_ok-mux.ensures.right c.in_ok-mode.ensures.right c.in_ok-sdc.ensures.right c.in_ok-mux.ensures.value c.in_ok-check_streams.ensures.right in
    is_mdi c.args.payload.now c.in_ok-known.known _ c.in_ok-known.ensures.known none (record {
      pointer = c.in_ok-major.ensures.value.0;
      pointer_stands = c.in_ok-major.ensures.value.1;
      major = c.in_ok-major.ensures.value.2;
      minor = c.in_ok-major.ensures.value.3;
      count = c.in_ok-dlfc.ensures.value.0;
      count_stands = c.in_ok-dlfc.ensures.value.1;
      dlfc = c.in_ok-dlfc.ensures.value.2;
      fac_stands = c.in_ok-fac_bytes.ensures.bytes;
      fac = c.in_ok-fac_bytes.ensures.fac;
      description = c.in_ok-mux.ensures.value.0;
      description_stands = c.in_ok-mux.ensures.value.1;
      mux = c.in_ok-mux.ensures.value.2;
      mode = c.in_ok-mode.ensures.value;
      sdc = c.in_ok-sdc.ensures.value;
      streams = c.spans.ensures;
    })

pub returns-clause-whole : goal.returns-clause-whole
returns-clause-whole c = record {
  fac_fits = c.in_ok-fac_bytes.ensures.fits;
  description = c.in_ok-mux.ensures.value.2.description;
  mux_fits = c.in_ok-mux.ensures.fits;
  inside = rw c.spans.ensures (spans_inside _ c.in_ok-known.known c.in_ok-known.ensures.inside);
  block_inside = span_inside c.args.payload.now c.in_ok-known.known _ c.in_ok-sdc.sdc c.in_ok-known.ensures.inside c.in_ok-sdc.ensures.value;
  lengths = rw c.spans.ensures (right_lengths c.in_ok-known.known c.in_ok-mux.mux c.in_ok-mux.ensures.value.2.description c.in_ok-check_streams.ensures.right);
}
