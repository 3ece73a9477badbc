-- A fault of the image is one behind the head, whose world may have any image.
use Rattle.std.proofs.Common.{sym}
use Rattle.std.specs.Prelude.{replicate}
use Rattle.history.specs.Layout.{byte_count}
use Rattle.chronicle.specs.Settings.{setting_of}
use Rattle.trace.proofs.Begun.{plain_setting}
use Rattle.trace.proofs.text_reading.read_world.Goals as goal

pub returns-in-Err-read_image-clause-fault : goal.returns-in-Err-read_image-clause-fault
returns-in-Err-read_image-clause-fault c =
    let head = c.in-Ok.found.0 in
    let read = c.in-Ok.ensures in
    let zeros = replicate (byte_count head.geometry) 0 in
    let w = setting_of head.geometry head.ranges zeros head.cap in
    let setting = plain_setting head.geometry head.ranges head.cap read.layout read.ranges read.inside read.some read.few in
    c.in-Err-read_image.ensures.fault w c.args.bytes.now setting (sym c.byte_count.ensures.value) (read.found zeros)
