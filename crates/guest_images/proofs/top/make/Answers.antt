use Rattle.guest_images.proofs.top.make.Goals as goal

pub returns-in-Idsig-clause-makes : goal.returns-in-Idsig-clause-makes
returns-in-Idsig-clause-makes g c = rw (c.in-Ok.ensures.value, c.in-Idsig.is) (c.sign_file.ensures.signs (g.L.Sink.holds c.args.log.now))

pub returns-in-Idsig-clause-write : goal.returns-in-Idsig-clause-write
returns-in-Idsig-clause-write g c = λ e. absurd (c.sign_file.ensures.never e)

pub returns-in-Composite-clause-makes : goal.returns-in-Composite-clause-makes
returns-in-Composite-clause-makes g c = rw (c.in-Ok.ensures.value, c.in-Composite.is) (c.make_disk.ensures.composes (g.L.Sink.holds c.args.log.now))

pub returns-in-Instance-clause-makes : goal.returns-in-Instance-clause-makes
returns-in-Instance-clause-makes g c = rw (c.in-Ok.ensures.value, c.in-Instance.is) (c.make_image.ensures.images (g.L.Sink.holds c.args.log.now))

pub returns-in-Composite-clause-write : goal.returns-in-Composite-clause-write
returns-in-Composite-clause-write g c = λ e. absurd (c.make_disk.ensures.never e)
