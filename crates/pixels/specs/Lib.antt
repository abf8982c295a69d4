pub mod Framebuffer
pub mod Regions
pub mod Footprints
